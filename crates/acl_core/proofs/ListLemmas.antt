-- Accounts read one after another, of identifiers that differ.
use Rattle.std.proofs.Common.{◌≡◌, ℕ, ◌+◌, ◌<◌, ◌≤◌, nat_le, List, [], ◌∷◌, ◌++◌, length, drop, nat_eq, String, string_bytes, is_some, cond, Bool, true, false, not, ◌&&◌, ◌||◌, Option, Some, None, option_map, option_and_then, if◌then◌else◌, refl, sym, ap, ap₂, ◌∙◌, append_assoc, append-nil}
use Rattle.std.specs.Cmp.Lexicographic.{pointwise}
use Rattle.std.specs.List.{slice_get, list_any}
use Rattle.std.proofs.lemmas.List.{drop_more, drop_all, map-append}
use Rattle.std.proofs.lemmas.Option.{slice_get_within, get_or_from_slice_get}
use Rattle.std.proofs.lemmas.Bool.{le-leb, lt-leb}
use Rattle.doip_json.proofs.PlainLists.{values_listed}
use Rattle.doip_json.specs.Value.{Value, text, list, values_from}
use Rattle.std.specs.Option.{option_map_or}
use Rattle.sha2.specs.Sha256.{sha256}
use Rattle.acl_core.specs.Caller.{is_password}
use Rattle.acl_core.specs.Known.{Account, account_of}
use Rattle.std.specs.declared.alloc.Global.{Global}
use Rattle.std.specs.Map.{lookup}
use Rattle.acl_core.specs.declared.secret.Secret.{Secret}
use Rattle.acl_core.specs.Table.{account_kept, accounts_in}
use Rattle.acl_core.specs.File.{account_in, each_in, has_id, are_different, unless_repeated, listed, admin_among}

-- what the items from place i on are
abbrev pub rest_in : List Value → ℕ → Option (List Account)
rest_in vs i = each_in (values_from (drop i vs))

rest_more : (vs : List Value) (i : ℕ) (v : Value) → slice_get vs i ≡ Some v
    → rest_in vs i ≡ option_and_then (λ a. option_map (λ more. a ∷ more) (rest_in vs (i + 1))) (account_in v)
rest_more vs i v is =
    ap (λ xs. each_in (values_from xs)) (drop_more vs i v (slice_get_within vs i v is)
    ∙ ap (λ y. y ∷ drop (i + 1) vs) (get_or_from_slice_get vs i v v is))

-- an item that is no account
pub rest_none : (vs : List Value) (i : ℕ) (v : Value) (done : List Account) → slice_get vs i ≡ Some v → account_in v ≡ None
    → option_map (λ more. done ++ more) (rest_in vs i) ≡ None
rest_none vs i v done is none =
    ap (option_map (λ more. done ++ more)) (rest_more vs i v is ∙ ap (option_and_then (λ a. option_map (λ more. a ∷ more) (rest_in vs (i + 1)))) none)

after_one : (done : List Account) (a : Account) (o : Option (List Account)) → option_map (λ more. done ++ more) (option_map (λ more. a ∷ more) o) ≡ option_map (λ more. (done ++ a ∷ []) ++ more) o
after_one done a None = refl
after_one done a (Some more) = ap Some (sym (append_assoc done (a ∷ []) more))

-- an item that is an account
pub rest_some : (vs : List Value) (i : ℕ) (v : Value) (a : Account) (done : List Account) → slice_get vs i ≡ Some v → account_in v ≡ Some a
    → option_map (λ more. done ++ more) (rest_in vs i) ≡ option_map (λ more. (done ++ a ∷ []) ++ more) (rest_in vs (i + 1))
rest_some vs i v a done is some =
    ap (option_map (λ more. done ++ more)) (rest_more vs i v is ∙ ap (option_and_then (λ b. option_map (λ more. b ∷ more) (rest_in vs (i + 1)))) some)
    ∙ after_one done a (rest_in vs (i + 1))

-- after the last item
pub rest_end : (vs : List Value) (i : ℕ) (done : List Account) → length vs ≤ i → option_map (λ more. done ++ more) (rest_in vs i) ≡ Some done
rest_end vs i done end =
    ap (λ xs. option_map (λ more. done ++ more) (each_in (values_from xs))) (drop_all i vs end) ∙ ap Some (append-nil done)

-- ---- identifiers that differ

abbrev repeats : Account → List Account → Bool
repeats a = list_any (λ b. pointwise nat_eq b.id a.id)

or_both : (x y : Bool) → x || y ≡ false → (x ≡ false) × (y ≡ false)
or_both true y e = absurd (cc)
or_both false y e = (refl, e)

and_both : (x y : Bool) → x && y ≡ true → (x ≡ true) × (y ≡ true)
and_both true y e = (refl, e)
and_both false y e = absurd (cc)

repeats-push : (a : Account) (xs : List Account) (b : Account) → repeats a (xs ++ b ∷ []) ≡ repeats a xs || pointwise nat_eq b.id a.id
repeats-push a [] b = by (pointwise nat_eq b.id a.id)
  where
    by : (x : Bool) → x || false ≡ x
    by true = refl
    by false = refl
repeats-push a (x ∷ xs) b = ap (λ r. pointwise nat_eq x.id a.id || r) (repeats-push a xs b) ∙ regroup (pointwise nat_eq x.id a.id) (repeats a xs) (pointwise nat_eq b.id a.id)
  where
    regroup : (x y z : Bool) → x || (y || z) ≡ (x || y) || z
    regroup true y z = refl
    regroup false y z = refl

-- a new identifier differs from all
pub different_more : (xs : List Account) (b : Account) → are_different xs ≡ true → has_id b.id xs ≡ false → are_different (xs ++ b ∷ []) ≡ true
different_more [] b so new = refl
different_more (x ∷ xs) b so new =
    let parts = and_both (not (repeats x xs)) (are_different xs) so in
    let news = or_both (pointwise nat_eq b.id x.id) (has_id b.id xs) new in
    ap₂ (λ p q. not p && q) (repeats-push x xs b ∙ ap (λ p. repeats x xs || p) news.0) (different_more xs b parts.1 news.1)
    ∙ first (repeats x xs) parts.0
  where
    first : (r : Bool) → not r ≡ true → not (r || false) && true ≡ true
    first true e = absurd (cc)
    first false e = refl

repeats_later : (a : Account) (xs : List Account) (b : Account) (more : List Account) → pointwise nat_eq b.id a.id ≡ true → repeats a (xs ++ b ∷ more) ≡ true
repeats_later a [] b more same = ap (λ p. p || repeats a more) same
repeats_later a (x ∷ xs) b more same = ap (λ r. pointwise nat_eq x.id a.id || r) (repeats_later a xs b more same) ∙ by (pointwise nat_eq x.id a.id)
  where
    by : (x : Bool) → x || true ≡ true
    by true = refl
    by false = refl

false_after : (p q : Bool) → q ≡ false → p && q ≡ false
false_after true q e = e
false_after false q e = refl

repeat_cases : (x : Account) (xs : List Account) (b : Account) (more : List Account) (r : Bool) → pointwise nat_eq b.id x.id ≡ r → r || has_id b.id xs ≡ true
    → (has_id b.id xs ≡ true → are_different (xs ++ b ∷ more) ≡ false) → not (repeats x (xs ++ b ∷ more)) && are_different (xs ++ b ∷ more) ≡ false
repeat_cases x xs b more true is there later = ap (λ p. not p && are_different (xs ++ b ∷ more)) (repeats_later x xs b more is)
repeat_cases x xs b more false is there later = false_after (not (repeats x (xs ++ b ∷ more))) (are_different (xs ++ b ∷ more)) (later there)

-- an identifier that is there already repeats
pub different_no : (xs : List Account) (b : Account) (more : List Account) → has_id b.id xs ≡ true → are_different (xs ++ b ∷ more) ≡ false
different_no [] b more there = absurd (cc)
different_no (x ∷ xs) b more there = repeat_cases x xs b more (pointwise nat_eq b.id x.id) refl there (different_no xs b more)

-- all that follows is refused
pub all_refused : (done : List Account) (b : Account) (o : Option (List Account)) → has_id b.id done ≡ true
    → option_and_then unless_repeated (option_map (λ more. (done ++ b ∷ []) ++ more) o) ≡ None
all_refused done b None there = refl
all_refused done b (Some more) there = ap unless_repeated (append_assoc done (b ∷ []) more) ∙ ap (λ t. if t then Some (done ++ b ∷ more) else None) (different_no done b more there)

-- ---- a table of accounts

-- whether a look in the table finds the identifier
pub look_has : (id : List ℕ) (es : List (String Global × Secret)) → is_some (lookup (λ k. pointwise nat_eq id (string_bytes k)) es) ≡ has_id id (accounts_in es)
look_has id [] = refl
look_has id (e ∷ es) = by (pointwise nat_eq id (string_bytes e.0)) (look_has id es)
  where
    by : (b : Bool) → is_some (lookup (λ k. pointwise nat_eq id (string_bytes k)) es) ≡ has_id id (accounts_in es)
        → is_some (cond b (Some e.1) (lookup (λ k. pointwise nat_eq id (string_bytes k)) es)) ≡ b || has_id id (accounts_in es)
    by true so = refl
    by false so = so

-- a new entry is added at the end
pub accounts_more : (es : List (String Global × Secret)) (e : String Global × Secret) → accounts_in (es ++ e ∷ []) ≡ accounts_in es ++ account_kept e ∷ []
accounts_more es e = map-append account_kept es (e ∷ [])

-- what is kept of an account's password
abbrev kept_of : Account → List ℕ × List ℕ
kept_of a = (a.salt, a.hash)

abbrev secret_kept : Secret → List ℕ × List ℕ
secret_kept s = (s.salt, s.hash)

-- what a look in the table finds of an account
pub look_finds : (id : List ℕ) (es : List (String Global × Secret))
    → option_map kept_of (account_of id (accounts_in es)) ≡ option_map secret_kept (lookup (λ k. pointwise nat_eq id (string_bytes k)) es)
look_finds id [] = refl
look_finds id (e ∷ es) = by (pointwise nat_eq id (string_bytes e.0)) (look_finds id es)
  where
    by : (b : Bool) → option_map kept_of (account_of id (accounts_in es)) ≡ option_map secret_kept (lookup (λ k. pointwise nat_eq id (string_bytes k)) es)
        → option_map kept_of (cond b (Some (account_kept e)) (account_of id (accounts_in es)))
        ≡ option_map secret_kept (cond b (Some e.1) (lookup (λ k. pointwise nat_eq id (string_bytes k)) es))
    by true so = refl
    by false so = so

admin_cases : (id : List ℕ) (o : Option Account) (p : Option (List ℕ × List ℕ)) (b : Bool) → option_map kept_of o ≡ p → b ≡ is_some p
    → option_map (λ a. Some id) o ≡ (if b then Some (Some id) else None)
admin_cases id None p b so is = rw (is, ← so) refl
admin_cases id (Some a) p b so is = rw (is, ← so) refl

some_mapped : (o : Option Secret) → is_some o ≡ is_some (option_map secret_kept o)
some_mapped None = refl
some_mapped (Some s) = refl

-- the admin, by a look in the table
pub admin_looked : (id : List ℕ) (es : List (String Global × Secret)) (b : Bool) → b ≡ is_some (lookup (λ k. pointwise nat_eq id (string_bytes k)) es)
    → admin_among (accounts_in es) (Some (text id)) ≡ (if b then Some (Some id) else None)
admin_looked id es b is =
    admin_cases id (account_of id (accounts_in es)) _ b (look_finds id es) (is ∙ some_mapped (lookup (λ k. pointwise nat_eq id (string_bytes k)) es))

-- an array that is short enough, and one that is too long
pub listed_short : (vs : List Value) → length vs ≤ 1000 → option_and_then unless_repeated (each_in (values_from vs)) ≡ listed (Some (list (values_from vs)))
listed_short vs short =
    sym (ap (λ b. if b then option_and_then unless_repeated (each_in (values_from vs)) else None)
    (ap (λ xs. nat_le (length xs) 1000) (values_listed vs) ∙ le-leb (length vs) 1000 short))

pub listed_long : (vs : List Value) → 1000 < length vs → None ≡ listed (Some (list (values_from vs)))
listed_long vs long =
    sym (ap (λ b. if b then option_and_then unless_repeated (each_in (values_from vs)) else None)
    (ap (λ xs. nat_le (length xs) 1000) (values_listed vs) ∙ lt-leb (length vs) 1000 long))

-- whether a password is that of what is kept
abbrev pub tested : List ℕ → List ℕ × List ℕ → Bool
tested password kept = pointwise nat_eq (sha256 (kept.0 ++ password)) kept.1

password_cases : (password : List ℕ) (o : Option Account) → option_map_or (λ a. is_password a password) o false ≡ option_map_or (tested password) (option_map kept_of o) false
password_cases password None = refl
password_cases password (Some a) = refl

-- whether a password is an account's, by a look in the table
pub password_looked : (id password : List ℕ) (es : List (String Global × Secret)) (o : Option Secret) → o ≡ lookup (λ k. pointwise nat_eq id (string_bytes k)) es
    → option_map_or (λ a. is_password a password) (account_of id (accounts_in es)) false ≡ option_map_or (tested password) (option_map secret_kept o) false
password_looked id password es o is =
    password_cases password (account_of id (accounts_in es))
    ∙ ap (λ p. option_map_or (tested password) p false) (look_finds id es ∙ ap (option_map secret_kept) (sym is))
