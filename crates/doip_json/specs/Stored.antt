-- How the logic stores a value: as marks, each of which builds on the values before it.
use Rattle.std.specs.Prelude.{◌≡◌, ℕ, ℤ, pos, List, [], ◌∷◌, true, false, cond, ◌==◌, refl}
use Rattle.std.specs.Coded.{Coded, code_by, coded×, coded_ℕ, coded_ℤ, coded_list}
use Rattle.std.proofs.Common.{◌∙◌}
use Rattle.doip_json.specs.Value.{Value, null, truth, whole, text, list, table, Values, no_values, value, Entries, no_entries, entry}

-- which step, and the number or the string that it takes
abbrev Mark : Type 0
Mark = ℕ × (ℤ × List ℕ)

-- a step that takes neither
abbrev step : ℕ → Mark
step n = (n, (pos 0, []))

-- the marks of a value, before those that follow
abbrev mutual
  marks : Value → List Mark → List Mark
  marks null rest = step 0 ∷ rest
  marks (truth true) rest = step 1 ∷ rest
  marks (truth false) rest = step 2 ∷ rest
  marks (whole z) rest = (3, (z, [])) ∷ rest
  marks (text s) rest = (4, (pos 0, s)) ∷ rest
  marks (list vs) rest = value_marks vs rest
  marks (table es) rest = entry_marks es rest

  value_marks : Values → List Mark → List Mark
  value_marks no_values rest = step 5 ∷ rest
  value_marks (value v vs) rest = value_marks vs (marks v (step 6 ∷ rest))

  entry_marks : Entries → List Mark → List Mark
  entry_marks no_entries rest = step 7 ∷ rest
  entry_marks (entry k v es) rest = entry_marks es (marks v ((8, (pos 0, k)) ∷ rest))

-- the items of an array
abbrev values_in : Value → Values
values_in null = no_values
values_in (truth b) = no_values
values_in (whole z) = no_values
values_in (text s) = no_values
values_in (list vs) = vs
values_in (table es) = no_values

-- the entries of an object
abbrev entries_in : Value → Entries
entries_in null = no_entries
entries_in (truth b) = no_entries
entries_in (whole z) = no_entries
entries_in (text s) = no_entries
entries_in (list vs) = no_entries
entries_in (table es) = es

-- the last value goes to the beginning of the array before it
abbrev with_value : List Value → List Value
with_value [] = []
with_value (v ∷ []) = []
with_value (v ∷ w ∷ done) = list (value v (values_in w)) ∷ done

-- the last value goes, under the key, to the beginning of the object before it
abbrev with_entry : List ℕ → List Value → List Value
with_entry k [] = []
with_entry k (v ∷ []) = []
with_entry k (v ∷ w ∷ done) = table (entry k v (entries_in w)) ∷ done

-- the values after one mark
abbrev after_mark : Mark → List Value → List Value
after_mark m done =
    cond (m.0 == 0) (null ∷ done) (cond (m.0 == 1) (truth true ∷ done) (cond (m.0 == 2) (truth false ∷ done)
    (cond (m.0 == 3) (whole m.1.0 ∷ done)
    (cond (m.0 == 4) (text m.1.1 ∷ done) (cond (m.0 == 5) (list no_values ∷ done)
    (cond (m.0 == 6) (with_value done) (cond (m.0 == 7) (table no_entries ∷ done) (with_entry m.1.1 done))))))))

-- the values after all marks
abbrev built : List Mark → List Value → List Value
built [] done = done
built (m ∷ ms) done = built ms (after_mark m done)

mutual
  built-marks : (v : Value) (rest : List Mark) (done : List Value) → built (marks v rest) done ≡ built rest (v ∷ done)
  built-marks null rest done = refl
  built-marks (truth true) rest done = refl
  built-marks (truth false) rest done = refl
  built-marks (whole z) rest done = refl
  built-marks (text s) rest done = refl
  built-marks (list vs) rest done = built-value_marks vs rest done
  built-marks (table es) rest done = built-entry_marks es rest done

  built-value_marks : (vs : Values) (rest : List Mark) (done : List Value)
      → built (value_marks vs rest) done ≡ built rest (list vs ∷ done)
  built-value_marks no_values rest done = refl
  built-value_marks (value v vs) rest done =
      built-value_marks vs (marks v (step 6 ∷ rest)) done ∙ built-marks v (step 6 ∷ rest) (list vs ∷ done)

  built-entry_marks : (es : Entries) (rest : List Mark) (done : List Value)
      → built (entry_marks es rest) done ≡ built rest (table es ∷ done)
  built-entry_marks no_entries rest done = refl
  built-entry_marks (entry k v es) rest done =
      built-entry_marks es (marks v ((8, (pos 0, k)) ∷ rest)) done
      ∙ built-marks v ((8, (pos 0, k)) ∷ rest) (table es ∷ done)

-- the value that was built last
abbrev last : List Value → Value
last [] = null
last (v ∷ vs) = v

-- the marks of a value build it again
pub last-built : (v : Value) → last (built (marks v []) []) ≡ v
last-built v = λ i. last (built-marks v [] [] i)

-- a value is stored as its marks
abbrev pub value_code : Coded Value
value_code =
    code_by (List Mark) (coded_list (coded× coded_ℕ (coded× coded_ℤ (coded_list coded_ℕ))))
    (λ v. marks v []) (λ ms. last (built ms [])) last-built
