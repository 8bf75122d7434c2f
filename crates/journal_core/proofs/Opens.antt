-- What the parts of an opening say together.
use Rattle.std.proofs.Common.{◌≡◌, ℕ, ◌-◌, min, List, length, take, drop, sym, ◌∙◌, ap, subst, arith, length-drop, length-take}
use Rattle.std.proofs.lemmas.List.{take_min}
use Rattle.std.specs.Prelude.{Result, Ok, Err}
use Rattle.journal_core.specs.File.{HasHeader, base_of, inside_of, HoldsAt, IsNotAStore}
use Rattle.journal_core.specs.Area.{rest_at, Reaches, IsRead, Refuses}
use Rattle.journal_core.specs.Open.{IsCauseOf, IsFoundIn}
use Rattle.journal_core.specs.declared.open.Found.{Found}
use Rattle.std.specs.Result.{IsErrAnd}
use Rattle.journal_core.specs.declared.layout.Format.{Format}
use Rattle.journal_core.specs.declared.open.OpenFault.{OpenFault}
use Rattle.journal_core.specs.declared.open.OpenFault.TheVariants.{NotAStore, Version, Damaged, DiskFault, Memory}
use Rattle.journal_core.specs.declared.records.Record.{Record}
use Rattle.journal_core.proofs.Meanings.{one_area}

-- without a header it is no store
pub no_header : (file : List ℕ) → ((area side : ℕ) → HasHeader file area side → ⊥) → IsNotAStore file
no_header file none area side has = absurd (none area side has)

-- what was read of the area
pub inside_is : (file : List ℕ) (area side size : ℕ) → size ≡ min (length file - base_of area side) area → rest_at file (base_of area side) size ≡ inside_of file area side
inside_is file area side size is =
    let rest : List ℕ = drop (base_of area side) file in
    let least : size ≡ min area (length rest) = omega (arith, is, length-drop (base_of area side) file) in
    ap (λ (n : ℕ). take n rest) least ∙ take_min area rest

-- all of it was there
pub reaches_area : (file : List ℕ) (area side size : ℕ) → size ≡ min (length file - base_of area side) area → Reaches file (base_of area side) size
reaches_area file area side size is = omega (arith, is, length-take size (drop (base_of area side) file), length-drop (base_of area side) file)

pub cause_of : (format : Format) (fault : OpenFault) (file inside : List ℕ) (area side : ℕ) → HasHeader file area side → inside ≡ inside_of file area side → Refuses format (base_of area side) inside fault
    → IsCauseOf format file fault
cause_of format NotAStore file inside area side has is refused = λ other_area other_side other.
    let same = one_area file other_area other_side area side other has in
    ap (λ (a : ℕ). inside_of file a other_side) same.0 ∙ ap (λ (s : ℕ). inside_of file area s) same.1 ∙ sym is ∙ refused
cause_of format (Version byte) file inside area side has is refused = (area, side, refused.0, has, sym is ∙ refused.1, refused.2)
cause_of format (Damaged place) file inside area side has is refused = (area, side, refused.0, refused.1, has, refused.3, sym is ∙ refused.2, refused.4, refused.5)
cause_of format DiskFault file inside area side has is refused = tt
cause_of format Memory file inside area side has is refused = tt

-- the list that was read
pub holds_read : (format : Format) (file inside : List ℕ) (area side used : ℕ) (entries : List Record) → HasHeader file area side → inside ≡ inside_of file area side → IsRead format inside entries used
    → HoldsAt format file area side entries
holds_read format file inside area side used entries has is read = record { has = has; fits = read.5; gate = read.0; rest = read.1; is = sym is ∙ read.2; shut = read.3 }

-- a refusal that is passed on
pub refused_found : (format : Format) (file : List ℕ) (result : Result Found OpenFault) (fault : OpenFault) → IsErrAnd result (λ e. e ≡ fault) → IsCauseOf format file fault → IsFoundIn format file result
refused_found format file (Ok found) fault is cause = absurd is
refused_found format file (Err e) fault is cause = subst (IsCauseOf format file) (sym is) cause
