use Rattle.std.proofs.Common.{◌≡◌, ◌∷◌, ◌++◌, IsUtf8, string_bytes}
use Rattle.std.specs.Str.Iter.{chars_rest}
use Rattle.doip_json.specs.Written.{token_of}
use Rattle.doip_json.proofs.token.escaped.Given as goal

abbrev pub invariant-loop-letter : goal.invariant-loop-letter
invariant-loop-letter l = record {
  utf8 : IsUtf8 (chars_rest l.letter-iterator);
  written : string_bytes l.token ++ token_of (chars_rest l.letter-iterator) ≡ 47 ∷ token_of l.fn.name;
}
