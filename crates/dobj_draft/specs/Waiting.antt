-- The place of an element among others. A private search is stated by it.
use Rattle.std.specs.Prelude.{◌≡◌, ℕ, ◌<◌, List, length, slice_index_or, slice_set}
use Rattle.dobj_draft.specs.declared.draft.DraftElement.{DraftElement}
use Rattle.dobj_draft.specs.Draft.{with_payload, filled}

-- the element at place i is the first with the identifier: it is the one that is filled
pub record IsFirst (id : List ℕ) (es : List DraftElement) (i : ℕ) : Type 0 where
  pub within : i < length es
  pub fills : (e : DraftElement) → e ≡ slice_index_or es i e → (bytes : List ℕ)
      → filled id bytes es ≡ slice_set es i (with_payload bytes e)
