-- By which proofs tell rows, contents and tables apart, from the code of an object.
use Rattle.std.specs.Prelude.{ℕ, List, Option, refl}
use Rattle.std.specs.Coded.{Coded, code_by, coded×, coded_list, coded_option, coded_ℕ}
use Rattle.std.specs.FinMap as finite
use Rattle.dobj_model.specs.declared.object.ObjectValue.{ObjectValue}
use Rattle.record_core.specs.declared.change.Change.{Change}
use Rattle.repo_state.specs.Contents.{Contents, Stamped, Objects}
use Rattle.repo_state.specs.Held.{Held}
use Rattle.repo_state.specs.Rows.{Kept, Row}

-- the code of rows
abbrev pub kept_code : Coded ObjectValue → Coded Kept
kept_code object =
    code_by (List Row × ℕ) (coded× (coded_list (coded× (coded_list coded_ℕ) object)) coded_ℕ)
    (λ k. (k.rows, k.spare)) (λ p. record { rows = p.0; spare = p.1 }) (λ _. refl)

-- the code of contents
abbrev pub contents_code : Coded ObjectValue → Coded Contents
contents_code object =
    code_by (Objects × (ℕ × ℕ)) (coded× (finite.code (coded_list coded_ℕ) object) (coded× coded_ℕ coded_ℕ))
    (λ c. (c.objects, (c.counter, c.number)))
    (λ p. record { objects = p.0; counter = p.1.0; number = p.1.1 }) (λ _. refl)

-- the code of a table
abbrev pub held_code : Coded ObjectValue → Coded Held
held_code object =
    code_by (Contents × (ℕ × Option (List ℕ)))
    (coded× (contents_code object) (coded× coded_ℕ (coded_option (coded_list coded_ℕ))))
    (λ h. (h.contents, (h.room.spare, h.room.id)))
    (λ p. record { contents = p.0; room = record { spare = p.1.0; id = p.1.1 } }) (λ _. refl)

-- the code of a change with its stamp
abbrev stamped_code : Coded Change → Coded Stamped
stamped_code change =
    code_by ((ℕ × ℕ) × Change) (coded× (coded× coded_ℕ coded_ℕ) change)
    (λ s. ((s.stamp.number, s.stamp.time), s.change))
    (λ p. record { stamp = record { number = p.0.0; time = p.0.1 }; change = p.1 }) (λ _. refl)

-- the code of changes with their stamps, from the code of a change
abbrev pub listed_code : Coded Change → Coded (List Stamped)
listed_code change = coded_list (stamped_code change)
