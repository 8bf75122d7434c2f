-- The room of tokens, and of the first items of an array or an object.
use Rattle.std.proofs.Common.{◌≡◌, ℕ, zero, suc, ◌+◌, ◌<◌, ◌≤◌, List, [], ◌∷◌, ◌++◌, length, take, get_or, flat_map, Some, Result, Ok, Err, ap, arith}
use Rattle.std.proofs.lemmas.List.{length-append}
use Rattle.std.specs.List.{slice_get}
use Rattle.std.specs.Map.{keys_of, values_of}
use Rattle.json.specs.Token as json
use Rattle.json.specs.Print.{quoted}
use Rattle.doip_json.specs.Value.{Value, values_from, entries_from}
use Rattle.doip_json.specs.Text.{escaped}
use Rattle.doip_json.proofs.Printed.{quoted_same}
use Rattle.doip_json.specs.Tokens.{tokens_of, item_tokens, entry_tokens}
use Rattle.json.specs.Filled.{UsesSpare}
use Rattle.doip_json.specs.Room.{tokens_room, room_of, TakesRoom}
use Rattle.doip_json.proofs.Ascending.{Pairs}

pub tokens_room-append : (ts us : List json.Token) → tokens_room (ts ++ us) ≡ tokens_room ts + tokens_room us
tokens_room-append [] us = omega arith
tokens_room-append (t ∷ ts) us = omega (arith, tokens_room-append ts us)

abbrev pub items_room : List Value → ℕ
items_room vs = tokens_room (item_tokens (values_from vs))

abbrev pub entries_room : Pairs → ℕ
entries_room es = tokens_room (entry_tokens (entries_from es))

abbrev pub key_room : List ℕ → ℕ
key_room k = tokens_room (json.key k ∷ [])

pub list_total : (vs : List Value) → tokens_room (json.begin_array ∷ (item_tokens (values_from vs) ++ json.end_array ∷ [])) ≡ items_room vs + 4
list_total vs = omega (arith, tokens_room-append (item_tokens (values_from vs)) (json.end_array ∷ []))

pub map_total : (es : Pairs) → tokens_room (json.begin_object ∷ (entry_tokens (entries_from es) ++ json.end_object ∷ [])) ≡ entries_room es + 4
map_total es = omega (arith, tokens_room-append (entry_tokens (entries_from es)) (json.end_object ∷ []))

-- one item more
pub item_next : (vs : List Value) (i : ℕ) (v : Value) → slice_get vs i ≡ Some v → items_room (take (i + 1) vs) ≡ items_room (take i vs) + room_of v
item_next [] i v e = absurd (cc)
item_next (w ∷ vs) zero v e = let same : w ≡ v = cc in rw (← same) (omega (arith, tokens_room-append (tokens_of w) []))
item_next (w ∷ vs) (suc i) v e =
    let next : suc i + 1 ≡ suc (i + 1) = omega arith in
    rw next (omega (arith, item_next vs i v e, tokens_room-append (tokens_of w) (item_tokens (values_from (take i vs))), tokens_room-append (tokens_of w) (item_tokens (values_from (take (i + 1) vs)))))

-- the first items and the next have no more room than all
pub item_within : (vs : List Value) (i : ℕ) (v : Value) → slice_get vs i ≡ Some v → items_room (take i vs) + room_of v ≤ items_room vs
item_within [] i v e = absurd (cc)
item_within (w ∷ vs) zero v e = let same : w ≡ v = cc in rw (← same) (omega (arith, tokens_room-append (tokens_of w) (item_tokens (values_from vs))))
item_within (w ∷ vs) (suc i) v e =
    omega (arith, item_within vs i v e, tokens_room-append (tokens_of w) (item_tokens (values_from (take i vs))), tokens_room-append (tokens_of w) (item_tokens (values_from vs)))

-- the same of entries
pub entry_next : (es : Pairs) (i : ℕ) (k : List ℕ) (v : Value) → slice_get (keys_of es) i ≡ Some k → slice_get (values_of es) i ≡ Some v
    → entries_room (take (i + 1) es) ≡ entries_room (take i es) + (key_room k + room_of v)
entry_next [] i k v e f = absurd (cc)
entry_next (w ∷ es) zero k v e f =
    let key : w.0 ≡ k = cc in let same : w.1 ≡ v = cc in
    rw (← key, ← same) (omega (arith, tokens_room-append (tokens_of w.1) []))
entry_next (w ∷ es) (suc i) k v e f =
    let next : suc i + 1 ≡ suc (i + 1) = omega arith in
    rw next (omega (arith, entry_next es i k v e f, tokens_room-append (tokens_of w.1) (entry_tokens (entries_from (take i es))), tokens_room-append (tokens_of w.1) (entry_tokens (entries_from (take (i + 1) es)))))

pub entry_within : (es : Pairs) (i : ℕ) (k : List ℕ) (v : Value) → slice_get (keys_of es) i ≡ Some k → slice_get (values_of es) i ≡ Some v
    → entries_room (take i es) + (key_room k + room_of v) ≤ entries_room es
entry_within [] i k v e f = absurd (cc)
entry_within (w ∷ es) zero k v e f =
    let key : w.0 ≡ k = cc in let same : w.1 ≡ v = cc in
    rw (← key, ← same) (omega (arith, tokens_room-append (tokens_of w.1) (entry_tokens (entries_from es))))
entry_within (w ∷ es) (suc i) k v e f =
    omega (arith, entry_within es i k v e f, tokens_room-append (tokens_of w.1) (entry_tokens (entries_from (take i es))), tokens_room-append (tokens_of w.1) (entry_tokens (entries_from es)))

pub key_within : (es : Pairs) (i : ℕ) (k : List ℕ) → slice_get (keys_of es) i ≡ Some k → entries_room (take i es) + key_room k ≤ entries_room es
key_within [] i k e = absurd (cc)
key_within (w ∷ es) zero k e = let key : w.0 ≡ k = cc in rw (← key) (omega arith)
key_within (w ∷ es) (suc i) k e =
    omega (arith, key_within es i k e, tokens_room-append (tokens_of w.1) (entry_tokens (entries_from (take i es))), tokens_room-append (tokens_of w.1) (entry_tokens (entries_from es)))

-- a string, and a key with its colon
pub string_total : (s : List ℕ) → tokens_room (json.string s ∷ []) ≡ length (flat_map escaped s) + 3
string_total s = omega (arith, ap length (quoted_same s), length-append (flat_map escaped s) (34 ∷ []))

pub key_total : (s : List ℕ) → key_room s ≡ length (flat_map escaped s) + 4
key_total s = omega (arith, ap length (quoted_same s), length-append (quoted s) (58 ∷ []), length-append (flat_map escaped s) (34 ∷ []))

-- one byte more
pub byte_next : (s : List ℕ) (i : ℕ) → i < length s → length (flat_map escaped (take (i + 1) s)) ≡ length (flat_map escaped (take i s)) + length (escaped (get_or s i 0))
byte_next [] i within = absurd (omega arith)
byte_next (y ∷ s) zero within = omega (arith, length-append (escaped y) [])
byte_next (y ∷ s) (suc i) within =
    let next : suc i + 1 ≡ suc (i + 1) = omega arith in
    rw next (omega (arith, byte_next s i (omega arith), length-append (escaped y) (flat_map escaped (take i s)), length-append (escaped y) (flat_map escaped (take (i + 1) s))))

-- a write that fails, and one more write after others
pub fails_short : {E : Type 0} (r : Result (Unit {0}) E) (e : E) (start after room : ℕ) → r ≡ Err e → start < room → TakesRoom r start after room
fails_short (Ok u) e start after room is h = absurd (cc)
fails_short (Err f) e start after room is h = h

pub writes_more : {E : Type 0} (r : Result (Unit {0}) E) (start before after used room total : ℕ) → start ≤ before + used → UsesSpare r before after room → used + room ≤ total → TakesRoom r start after total
writes_more (Ok u) start before after used room total first then fits = omega arith
writes_more (Err f) start before after used room total first then fits = let short = then.0 in omega arith
