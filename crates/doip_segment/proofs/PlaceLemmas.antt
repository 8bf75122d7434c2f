-- The segments of a table, while the buffer and the table grow at their ends.
use Rattle.std.proofs.Common.{◌≡◌, ℕ, zero, suc, ◌-◌, ◌≤◌, ◌<◌, List, [], ◌∷◌, ◌++◌, length, take, drop, get_or, refl, ap, ◌∙◌, arith}
use Rattle.std.proofs.lemmas.List.{take-append-le, drop-append-le, length-drop, length-take, take_rest}
use Rattle.std.proofs.Math.Seq.{drop-append_seam}
use Rattle.std.specs.Prelude.{slice_range, All}
use Rattle.doip_segment.specs.declared.kind.Kind.{Kind}
use Rattle.doip_segment.specs.declared.message.Extent.{Extent}
use Rattle.doip_segment.specs.Segments.{Segment, segment}
use Rattle.doip_segment.specs.Place.{segment_at, segments_in, AreWithin}

-- a range that ends within the prefix stays as it is
pub range_stays : (a b : ℕ) (xs ys : List ℕ) → a ≤ b → b ≤ length xs → slice_range (xs ++ ys) a b ≡ slice_range xs a b
range_stays a b xs ys low high =
    let inside : a ≤ length xs = omega arith in
    let fits : b - a ≤ length (drop a xs) = omega (arith, length-drop a xs) in
    ap (take (b - a)) (drop-append-le a xs ys inside) ∙ take-append-le (b - a) (drop a xs) ys fits

pub length-segments_in : (contents : List ℕ) (es : List Extent) → length (segments_in contents es) ≡ length es
length-segments_in contents [] = refl
length-segments_in contents (e ∷ es) = ap suc (length-segments_in contents es)

-- more contents change no segment
pub segments_stay : (contents more : List ℕ) (bound : ℕ) (es : List Extent) → AreWithin bound es → bound ≤ length contents → segments_in (contents ++ more) es ≡ segments_in contents es
segments_stay contents more bound [] within high = refl
segments_stay contents more bound (e ∷ es) within high =
    let inside : e.end ≤ length contents = omega (arith, within.1) in
    let first = ap (segment e.kind) (range_stays e.start e.end contents more within.0 inside) in
    let others = segments_stay contents more bound es within.2 high in
    ap (λ s. s ∷ segments_in (contents ++ more) es) first ∙ ap (λ ss. segment_at contents e ∷ ss) others

pub segments_in-append : (contents : List ℕ) (es : List Extent) (e : Extent) → segments_in contents (es ++ e ∷ []) ≡ segments_in contents es ++ segment_at contents e ∷ []
segments_in-append contents [] e = refl
segments_in-append contents (f ∷ es) e = ap (λ ss. segment_at contents f ∷ ss) (segments_in-append contents es e)

pub AreWithin-more : (low high : ℕ) (es : List Extent) → low ≤ high → AreWithin low es → AreWithin high es
AreWithin-more low high [] le within = tt
AreWithin-more low high (e ∷ es) le within = (within.0, omega (arith, within.1), AreWithin-more low high es le within.2)

pub AreWithin-append : (bound : ℕ) (es : List Extent) (e : Extent) → AreWithin bound es → e.start ≤ e.end → e.end ≤ bound → AreWithin bound (es ++ e ∷ [])
AreWithin-append bound [] e within low high = (low, high, tt)
AreWithin-append bound (f ∷ es) e within low high = (within.0, within.1, AreWithin-append bound es e within.2 low high)

-- what the table says of an entry
pub segments_in-at : (contents : List ℕ) (es : List Extent) (i : ℕ) (e : Extent) (d : Segment) → i < length es → get_or (segments_in contents es) i d ≡ segment_at contents (get_or es i e)
segments_in-at contents [] i e d h = absurd (omega arith)
segments_in-at contents (f ∷ es) zero e d h = refl
segments_in-at contents (f ∷ es) (suc i) e d h = let lower : i < length es = omega arith in segments_in-at contents es i e d lower

pub within_at : (bound : ℕ) (es : List Extent) (i : ℕ) (e : Extent) → AreWithin bound es → i < length es → ((get_or es i e).start ≤ (get_or es i e).end) × ((get_or es i e).end ≤ bound)
within_at bound [] i e within h = absurd (omega arith)
within_at bound (f ∷ es) zero e within h = (within.0, within.1)
within_at bound (f ∷ es) (suc i) e within h = let lower : i < length es = omega arith in within_at bound es i e within.2 lower

-- the range up to the end of the buffer
pub range_to_end : (a : ℕ) (xs : List ℕ) → slice_range xs a (length xs) ≡ drop a xs
range_to_end a xs = take_rest xs a

-- the content so far becomes a segment
pub closed_segments : (contents : List ℕ) (es : List Extent) (k : Kind) (a b : ℕ) → b ≡ length contents → segments_in contents (es ++ record { kind = k; start = a; end = b } ∷ []) ≡ segments_in contents es ++ segment k (drop a contents) ∷ []
closed_segments contents es k a b e =
    let range = ap (λ n. slice_range contents a n) e ∙ range_to_end a contents in
    segments_in-append contents es (record { kind = k; start = a; end = b }) ∙ ap (λ bytes. segments_in contents es ++ segment k bytes ∷ []) range

-- new bytes become a segment
pub pushed_segments : (contents bytes : List ℕ) (es : List Extent) (k : Kind) (bound a b : ℕ) → AreWithin bound es → bound ≤ length contents → a ≡ length contents → b ≡ length (contents ++ bytes) → segments_in (contents ++ bytes) (es ++ record { kind = k; start = a; end = b } ∷ []) ≡ segments_in contents es ++ segment k bytes ∷ []
pushed_segments contents bytes es k bound a b within high from to =
    let new = ap (λ n. drop n (contents ++ bytes)) from ∙ drop-append_seam contents bytes in
    closed_segments (contents ++ bytes) es k a b to
    ∙ ap (λ x. segments_in (contents ++ bytes) es ++ segment k x ∷ []) new
    ∙ ap (λ ss. ss ++ segment k bytes ∷ []) (segments_stay contents bytes bound es within high)

-- no segment is longer than the buffer
pub segments_short : (contents : List ℕ) (bound : ℕ) (es : List Extent) → AreWithin bound es → bound ≤ length contents
    → All (λ s. length s.bytes ≤ length contents) (segments_in contents es)
segments_short contents bound [] within high = λ k d below. absurd (omega (arith, below))
segments_short contents bound (e ∷ es) within high = by (segments_short contents bound es within.2 high)
  where
    by : All (λ s. length s.bytes ≤ length contents) (segments_in contents es) → (k : ℕ) (d : Segment)
        → k < length (segments_in contents (e ∷ es))
        → length (get_or (segments_in contents (e ∷ es)) k d).bytes ≤ length contents
    by others zero d below =
        let size = length-take (e.end - e.start) (drop e.start contents) in
        omega (arith, size, within.0, within.1, high)
    by others (suc k) d below = others k d (omega (arith, below))
