-- The print of a text's tokens is no longer than its lexemes.
use Rattle.std.proofs.Common.{ℕ, ◌+◌, ◌≤◌, max, List, [], ◌∷◌, ◌++◌, length, true, false, arith}
use Rattle.std.proofs.lemmas.List.{length-append}
use Rattle.json.specs.Token.{begin_object, end_object, begin_array, end_array, key, string, number, boolean, null, bad}
use Rattle.json.specs.Lex.{Lexeme, token, comma, colon, fresh, after_value, after_comma, punctuate}
use Rattle.json.specs.Print.{print_from, token_text, quoted}

-- a lexeme has a byte at least, also where it is a fault
abbrev pub lexeme_size : Lexeme → ℕ
lexeme_size (token t) = max 1 (length (token_text t))
lexeme_size comma = 1
lexeme_size colon = 1

abbrev pub lexemes_size : List Lexeme → ℕ
lexemes_size [] = 0
lexemes_size (l ∷ ls) = lexeme_size l + lexemes_size ls

mutual
  unfolding punctuate print_from

  pub fresh_fits : (ls : List Lexeme) → length (print_from false (punctuate fresh ls)) ≤ lexemes_size ls
  fresh_fits [] = omega arith
  fresh_fits (comma ∷ ls) = omega arith
  fresh_fits (colon ∷ ls) = omega arith
  fresh_fits (token begin_object ∷ ls) = omega (arith, fresh_fits ls)
  fresh_fits (token end_object ∷ ls) = omega (arith, value_fits ls)
  fresh_fits (token begin_array ∷ ls) = omega (arith, fresh_fits ls)
  fresh_fits (token end_array ∷ ls) = omega (arith, value_fits ls)
  fresh_fits (token (key s) ∷ ls) = omega arith
  fresh_fits (token (string s) ∷ []) = omega (arith, length-append (quoted s) [])
  fresh_fits (token (string s) ∷ token t ∷ ls) = omega (arith, value_fits (token t ∷ ls), length-append (quoted s) (print_from true (punctuate after_value (token t ∷ ls))))
  fresh_fits (token (string s) ∷ comma ∷ ls) = omega (arith, value_fits (comma ∷ ls), length-append (quoted s) (print_from true (punctuate after_value (comma ∷ ls))))
  fresh_fits (token (string s) ∷ colon ∷ ls) = omega (arith, fresh_fits ls, length-append (quoted s ++ 58 ∷ []) (print_from false (punctuate fresh ls)), length-append (quoted s) (58 ∷ []))
  fresh_fits (token (number s) ∷ ls) = omega (arith, value_fits ls, length-append s (print_from true (punctuate after_value ls)))
  fresh_fits (token (boolean true) ∷ ls) = omega (arith, value_fits ls)
  fresh_fits (token (boolean false) ∷ ls) = omega (arith, value_fits ls)
  fresh_fits (token null ∷ ls) = omega (arith, value_fits ls)
  fresh_fits (token bad ∷ ls) = omega arith

  value_fits : (ls : List Lexeme) → length (print_from true (punctuate after_value ls)) ≤ lexemes_size ls
  value_fits [] = omega arith
  value_fits (comma ∷ ls) = comma_fits ls
  value_fits (colon ∷ ls) = omega arith
  value_fits (token begin_object ∷ ls) = omega arith
  value_fits (token end_object ∷ ls) = omega (arith, value_fits ls)
  value_fits (token begin_array ∷ ls) = omega arith
  value_fits (token end_array ∷ ls) = omega (arith, value_fits ls)
  value_fits (token (key s) ∷ ls) = omega arith
  value_fits (token (string s) ∷ []) = omega arith
  value_fits (token (string s) ∷ token t ∷ ls) = omega arith
  value_fits (token (string s) ∷ comma ∷ ls) = omega arith
  value_fits (token (string s) ∷ colon ∷ ls) = omega arith
  value_fits (token (number s) ∷ ls) = omega arith
  value_fits (token (boolean b) ∷ ls) = omega arith
  value_fits (token null ∷ ls) = omega arith
  value_fits (token bad ∷ ls) = omega arith

  comma_fits : (ls : List Lexeme) → length (print_from true (punctuate after_comma ls)) ≤ 1 + lexemes_size ls
  comma_fits [] = omega arith
  comma_fits (comma ∷ ls) = omega arith
  comma_fits (colon ∷ ls) = omega arith
  comma_fits (token begin_object ∷ ls) = omega (arith, fresh_fits ls)
  comma_fits (token end_object ∷ ls) = omega arith
  comma_fits (token begin_array ∷ ls) = omega (arith, fresh_fits ls)
  comma_fits (token end_array ∷ ls) = omega arith
  comma_fits (token (key s) ∷ ls) = omega arith
  comma_fits (token (string s) ∷ []) = omega (arith, length-append (quoted s) [])
  comma_fits (token (string s) ∷ token t ∷ ls) = omega (arith, value_fits (token t ∷ ls), length-append (quoted s) (print_from true (punctuate after_value (token t ∷ ls))))
  comma_fits (token (string s) ∷ comma ∷ ls) = omega (arith, value_fits (comma ∷ ls), length-append (quoted s) (print_from true (punctuate after_value (comma ∷ ls))))
  comma_fits (token (string s) ∷ colon ∷ ls) = omega (arith, fresh_fits ls, length-append (quoted s ++ 58 ∷ []) (print_from false (punctuate fresh ls)), length-append (quoted s) (58 ∷ []))
  comma_fits (token (number s) ∷ ls) = omega (arith, value_fits ls, length-append s (print_from true (punctuate after_value ls)))
  comma_fits (token (boolean true) ∷ ls) = omega (arith, value_fits ls)
  comma_fits (token (boolean false) ∷ ls) = omega (arith, value_fits ls)
  comma_fits (token null ∷ ls) = omega (arith, value_fits ls)
  comma_fits (token bad ∷ ls) = omega arith
