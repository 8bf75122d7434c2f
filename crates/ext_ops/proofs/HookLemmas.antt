-- What a hook made stays as it is, and nests no deeper.
use Rattle.std.proofs.Common.{◌≡◌, ℕ, pos, ◌≤◌, [], ◌∷◌, map, length, codes, Ok, refl, ap, ◌∙◌, arith}
use Rattle.doip_json.specs.Value.{Value, null, truth, whole, text, list, table, entries_from, entries_in, depth_of, deepest_entry}
use Rattle.doip_json.proofs.Ascending.{Pairs}
use Rattle.doip_json.proofs.Building.{deepest_entry-insert}
use Rattle.doip_json.proofs.PlainLists.{entries_listed, entries_back}
use Rattle.ext_ops.specs.declared.code.HookCode.{HookCode}
use Rattle.ext_ops.specs.declared.code.HookCode.TheVariants.{Trim, Count}
use Rattle.ext_ops.specs.Hook.{trimmed_value, trimmed_entry, with_trimmed, other_keys, with_count, counted, hook}
use Rattle.ext_ops.proofs.WhiteLemmas.{trimmed_again}
use Rattle.ext_ops.proofs.EntryLemmas.{trimmed_deepest, counted_again}

value_again : (v : Value) → trimmed_value (trimmed_value v) ≡ trimmed_value v
value_again null = refl
value_again (truth b) = refl
value_again (whole z) = refl
value_again (text s) = ap text (trimmed_again s)
value_again (list vs) = refl
value_again (table es) = refl

entries_again : (es : Pairs) → map trimmed_entry (map trimmed_entry es) ≡ map trimmed_entry es
entries_again [] = refl
entries_again (e ∷ es) = ap (λ v. (e.0, v) ∷ map trimmed_entry (map trimmed_entry es)) (value_again e.1) ∙ ap (λ r. trimmed_entry e ∷ r) (entries_again es)

with_trimmed_again : (v : Value) → with_trimmed (with_trimmed v) ≡ with_trimmed v
with_trimmed_again null = refl
with_trimmed_again (truth b) = refl
with_trimmed_again (whole z) = refl
with_trimmed_again (text s) = refl
with_trimmed_again (list vs) = refl
with_trimmed_again (table es) =
    let fs : Pairs = map trimmed_entry (entries_in es) in
    ap (λ gs. table (entries_from gs)) (ap (map trimmed_entry) (entries_listed fs) ∙ entries_again (entries_in es))

with_trimmed_depth : (v : Value) → depth_of (with_trimmed v) ≤ depth_of v
with_trimmed_depth null = omega arith
with_trimmed_depth (truth b) = omega arith
with_trimmed_depth (whole z) = omega arith
with_trimmed_depth (text s) = omega arith
with_trimmed_depth (list vs) = omega arith
with_trimmed_depth (table es) = omega (arith, trimmed_deepest (entries_in es), ap deepest_entry (entries_back es))

count_again : (before after : Value) → counted before ≡ Ok after → counted after ≡ Ok after
count_again null after made = absurd (cc)
count_again (truth b) after made = absurd (cc)
count_again (whole z) after made = absurd (cc)
count_again (text s) after made = absurd (cc)
count_again (list vs) after made = absurd (cc)
count_again (table es) after made =
    let fs : Pairs = with_count (entries_in es) in
    let same : table (entries_from fs) ≡ after = cc in
    rw (← same) (ap (λ gs. Ok (table (entries_from gs))) (ap with_count (entries_listed fs) ∙ counted_again (entries_in es)))

count_depth : (before after : Value) → counted before ≡ Ok after → depth_of after ≤ depth_of before
count_depth null after made = absurd (cc)
count_depth (truth b) after made = absurd (cc)
count_depth (whole z) after made = absurd (cc)
count_depth (text s) after made = absurd (cc)
count_depth (list vs) after made = absurd (cc)
count_depth (table es) after made =
    let fs : Pairs = with_count (entries_in es) in
    let same : table (entries_from fs) ≡ after = cc in
    let n : ℕ = deepest_entry es in
    let back : deepest_entry (entries_from (entries_in es)) ≡ n = ap deepest_entry (entries_back es) in
    let less : deepest_entry (entries_from fs) ≤ n =
    deepest_entry-insert (entries_in es) (codes "count") (whole (pos (length (other_keys (entries_in es))))) n (omega arith) (omega arith) in
    rw (← same) (omega (arith, less))

pub settled : (code : HookCode) → (before after : Value) → hook code before ≡ Ok after → hook code after ≡ Ok after
settled Trim before after made =
    let same : with_trimmed before ≡ after = cc in
    rw (← same) (ap Ok (with_trimmed_again before))
settled Count before after made = count_again before after made

pub no_deeper : (code : HookCode) → (before after : Value) → hook code before ≡ Ok after → depth_of after ≤ depth_of before
no_deeper Trim before after made =
    let same : with_trimmed before ≡ after = cc in
    rw (← same) (with_trimmed_depth before)
no_deeper Count before after made = count_depth before after made
