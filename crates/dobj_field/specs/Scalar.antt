-- A lent scalar, and the tests on texts.
use Rattle.std.specs.Prelude.{ℕ, List, Bool, false, nat_eq}
use Rattle.std.specs.Cmp.Lexicographic.{pointwise}
use Rattle.std.specs.List.{starts_with}
use Rattle.doip_json.specs.Value.{Value, truth, whole, text}
use Rattle.dobj_field.specs.declared.reach.Scalar.{Scalar}
use Rattle.dobj_field.specs.declared.reach.Scalar.TheVariants.{Number, Text, Truth}
use Rattle.dobj_field.specs.declared.reach.ScalarTest.{ScalarTest}
use Rattle.dobj_field.specs.declared.reach.ScalarTest.TheVariants.{Equals, Begins, Between}

-- the value that a lent scalar is
abbrev pub scalar_value : Scalar → Value
scalar_value (Number z) = whole z
scalar_value (Text s) = text s.now
scalar_value (Truth b) = truth b

-- a text passes the test
abbrev pub text_test : ScalarTest → List ℕ → Bool
text_test (Equals word) s = pointwise nat_eq s word
text_test (Begins word) s = starts_with nat_eq s word
text_test (Between low high) s = false
