-- The identifiers of accounts that were read have 1 to 255 bytes, and so have those that a look finds.
use Rattle.std.proofs.Common.{◌≡◌, ℕ, nat_le, List, [], ◌∷◌, length, nat_eq, cond, Bool, true, false, not, ◌&&◌, Option, Some, None, option_map, option_and_then, if◌then◌else◌, refl, sym, ap₂, subst, codes}
use Rattle.std.specs.Cmp.Lexicographic.{pointwise}
use Rattle.std.specs.Option.{option_map_or}
use Rattle.std.proofs.lemmas.Bool.{leb-true, eqb-true}
use Rattle.std.proofs.lemmas.Option.{same_Some, none-some}
use Rattle.doip_json.specs.Value.{Value, null, truth, whole, text, list, table, Values, no_values, value, values_in}
use Rattle.dobj_model.specs.Name.{IsName}
use Rattle.acl_core.specs.Known.{Account, account, account_of, AreNamed}
use Rattle.acl_core.specs.File.{string_at, is_reserved, unless_refused, id_in, hash_in, of_parts, account_in, each_in, are_different, unless_repeated, listed}

id_tests : (id x : List ℕ) (p q r : Bool) → nat_le 1 (length id) ≡ p → nat_le (length id) 255 ≡ q
    → (if p && q && r then Some id else None) ≡ Some x → IsName x
id_tests id x true true true p q is = subst IsName (same_Some id x is) (leb-true 1 (length id) p, leb-true (length id) 255 q)
id_tests id x true true false p q is = absurd (none-some x is)
id_tests id x true false r p q is = absurd (none-some x is)
id_tests id x false q r p s is = absurd (none-some x is)

named_id : (o : Option (List ℕ)) (x : List ℕ) → option_and_then unless_refused o ≡ Some x → IsName x
named_id None x is = absurd (none-some x is)
named_id (Some id) x is = id_tests id x (nat_le 1 (length id)) (nat_le (length id) 255) (not (is_reserved id)) refl refl is

named_parts : (id salt hash : Option (List ℕ)) (a : Account) → ((x : List ℕ) → id ≡ Some x → IsName x)
    → of_parts id salt hash ≡ Some a → IsName a.id
named_parts None salt hash a so is = absurd (none-some a is)
named_parts (Some id) None hash a so is = absurd (none-some a is)
named_parts (Some id) (Some salt) None a so is = absurd (none-some a is)
named_parts (Some id) (Some salt) (Some hash) a so is = subst (λ b. IsName b.id) (same_Some (account id salt hash) a is) (so id refl)

named_account : (v : Value) (a : Account) → account_in v ≡ Some a → IsName a.id
named_account v a is = named_parts (id_in v) (string_at (codes "salt") v) (hash_in v) a (named_id (string_at (codes "id") v)) is

named_more : (o : Option Account) (rest : Option (List Account)) (accounts : List Account)
    → ((a : Account) → o ≡ Some a → IsName a.id) → ((more : List Account) → rest ≡ Some more → AreNamed more)
    → option_and_then (λ a. option_map (λ more. a ∷ more) rest) o ≡ Some accounts → AreNamed accounts
named_more None rest accounts first others is = absurd (none-some accounts is)
named_more (Some a) None accounts first others is = absurd (none-some accounts is)
named_more (Some a) (Some more) accounts first others is =
    subst AreNamed (same_Some (a ∷ more) accounts is) (first a refl, others more refl)

each_named : (vs : Values) (accounts : List Account) → each_in vs ≡ Some accounts → AreNamed accounts
each_named no_values accounts is = subst AreNamed (same_Some [] accounts is) tt
each_named (value v vs) accounts is = named_more (account_in v) (each_in vs) accounts (named_account v) (each_named vs) is

named_unless : (b : Bool) (xs accounts : List Account) → AreNamed xs → (if b then Some xs else None) ≡ Some accounts → AreNamed accounts
named_unless true xs accounts named is = subst AreNamed (same_Some xs accounts is) named
named_unless false xs accounts named is = absurd (none-some accounts is)

named_different : (o : Option (List Account)) (accounts : List Account) → ((xs : List Account) → o ≡ Some xs → AreNamed xs)
    → option_and_then unless_repeated o ≡ Some accounts → AreNamed accounts
named_different None accounts named is = absurd (none-some accounts is)
named_different (Some xs) accounts named is = named_unless (are_different xs) xs accounts (named xs refl) is

named_within : (b : Bool) (vs : Values) (accounts : List Account)
    → (if b then option_and_then unless_repeated (each_in vs) else None) ≡ Some accounts → AreNamed accounts
named_within true vs accounts is = named_different (each_in vs) accounts (each_named vs) is
named_within false vs accounts is = absurd (none-some accounts is)

-- the accounts that a value lists
pub listed_named : (o : Option Value) (accounts : List Account) → listed o ≡ Some accounts → AreNamed accounts
listed_named None accounts is = absurd (none-some accounts is)
listed_named (Some null) accounts is = absurd (none-some accounts is)
listed_named (Some (truth b)) accounts is = absurd (none-some accounts is)
listed_named (Some (whole z)) accounts is = absurd (none-some accounts is)
listed_named (Some (text s)) accounts is = absurd (none-some accounts is)
listed_named (Some (list vs)) accounts is = named_within (nat_le (length (values_in vs)) 1000) vs accounts is
listed_named (Some (table es)) accounts is = absurd (none-some accounts is)

both_true : (x y : Bool) → x && y ≡ true → (x ≡ true) × (y ≡ true)
both_true true y e = (refl, e)
both_true false y e = absurd (cc)

pub equal_lists : (xs ys : List ℕ) → pointwise nat_eq xs ys ≡ true → xs ≡ ys
equal_lists [] [] same = refl
equal_lists [] (y ∷ ys) same = absurd (cc)
equal_lists (x ∷ xs) [] same = absurd (cc)
equal_lists (x ∷ xs) (y ∷ ys) same =
    let parts = both_true (nat_eq x y) (pointwise nat_eq xs ys) same in
    ap₂ (λ z zs. z ∷ zs) (eqb-true x y parts.0) (equal_lists xs ys parts.1)

-- the identifier of an account that is there
pub found_named : (test : Account → Bool) (id : List ℕ) (accounts : List Account) → AreNamed accounts
    → option_map_or test (account_of id accounts) false ≡ true → IsName id
found_named test id [] named is = absurd (cc)
found_named test id (a ∷ accounts) named is = by (pointwise nat_eq id a.id) refl (found_named test id accounts named.1) is
  where
    by : (b : Bool) → pointwise nat_eq id a.id ≡ b → (option_map_or test (account_of id accounts) false ≡ true → IsName id)
        → option_map_or test (cond b (Some a) (account_of id accounts)) false ≡ true → IsName id
    by true same later so = subst IsName (sym (equal_lists id a.id same)) named.0
    by false same later so = later so
