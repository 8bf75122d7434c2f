-- The canonical text of what a text is read as is no longer than the text.
use Rattle.std.proofs.Common.{◌≡◌, ℕ, ◌≤◌, List, [], ◌∷◌, ◌++◌, length, Bool, true, false, nat_le, if◌then◌else◌, Option, Some, None, Ok, Err, refl, ap, subst, arith}
use Rattle.std.specs.Str.{is_utf8}
use Rattle.json.specs.Json.{Json, value, if_last}
use Rattle.json.specs.Lex.{tokens}
use Rattle.json.specs.Token.{Token}
use Rattle.json.specs.Print.{print}
use Rattle.json.specs.Tree.{json_tokens}
use Rattle.serde_json.specs.Data as parsed
use Rattle.serde_json.specs.Read.{read, of_json}
use Rattle.doip_json.specs.declared.fault.TextFault.TheVariants.{NotWhole, TooDeep}
use Rattle.doip_json.specs.Value.{Value}
use Rattle.doip_json.specs.Text.{text_of}
use Rattle.doip_json.specs.Read.{value_in, or_fault, if_data, reading}
use Rattle.doip_json.proofs.Sizes.{data_size, tree_size, data_size-le, length-value_in, some_then}
use Rattle.doip_json.proofs.Trees.{Splits, value_splits, print_size}
use Rattle.doip_json.proofs.Lexing.{length-print}

is_last : (i j : Json) (ts : List Token) → if_last i ts ≡ Some j → i ≡ j
is_last i j [] e = cc
is_last i j (t ∷ ts) e = absurd (cc)

read_fits : (bytes : List ℕ) (d : parsed.Data) → read bytes ≡ Some d → data_size d ≤ length bytes
read_fits bytes d e =
    let whole = some_then _ of_json d e in
    let first = some_then (value 127 (tokens bytes)) (λ p. if_last p.0 p.1) whole.0 whole.1 in
    let p : Json × List Token = first.0 in
    let splits : tokens bytes ≡ json_tokens p.0 ++ p.1 = subst (Splits json_tokens (tokens bytes)) first.1 (value_splits 127 (tokens bytes)) in
    let same : tree_size p.0 ≡ tree_size whole.0 = ap tree_size (is_last p.0 whole.0 p.1 first.2) in
    omega (arith, data_size-le whole.0 d whole.2, same, print_size false p.0 p.1, ap (λ ts. length (print ts)) splits, length-print bytes)

or_value : (o : Option Value) (v : Value) → or_fault NotWhole o ≡ Ok v → o ≡ Some v
or_value None v e = absurd (cc)
or_value (Some w) v e = cc

within_value : (b : Bool) (o : Option Value) (v : Value) → (if b then or_fault NotWhole o else Err TooDeep) ≡ Ok v → o ≡ Some v
within_value true o v e = or_value o v e
within_value false o v e = absurd (cc)

utf8_value : (b : Bool) (o : Option parsed.Data) (d : parsed.Data) → (if b then o else None) ≡ Some d → o ≡ Some d
utf8_value true o d e = e
utf8_value false o d e = absurd (cc)

data_value : (depth : ℕ) (o : Option parsed.Data) (v : Value) → if_data depth o ≡ Ok v → (d : parsed.Data) × (o ≡ Some d) × (value_in d ≡ Some v)
data_value depth None v e = absurd (cc)
data_value depth (Some d) v e = (d, refl, within_value (nat_le (parsed.depth d) depth) (value_in d) v e)

pub no_longer : (bytes : List ℕ) (depth : ℕ) (v : Value) → reading bytes depth ≡ Ok v → length (text_of v) ≤ length bytes
no_longer bytes depth v e =
    let found = data_value depth (if is_utf8 bytes then read bytes else None) v e in
    omega (arith, length-value_in found.0 v found.2, read_fits bytes found.0 (utf8_value (is_utf8 bytes) (read bytes) found.0 found.1))
