-- What a field reaches in an object, and the tests on it. This project's own.
use Rattle.std.specs.Prelude.{ℕ, ℤ, int_le, List, [], ◌∷◌, flat_map, Bool, true, false, ◌&&◌, if◌then◌else◌, nat_eq}
use Rattle.std.specs.Prelude.{Option, Some, None, option_to_list, codes}
use Rattle.std.specs.Cmp.Lexicographic.{pointwise}
use Rattle.std.specs.Fmt.{signed_decimal}
use Rattle.std.specs.List.{starts_with}
use Rattle.doip_json.specs.Value.{Value, null, truth, whole, text, list, table, values_in, entries_from}
use Rattle.doip_json.specs.Look.{entry_of}
use Rattle.dobj_model.specs.declared.object.ObjectValue.{ObjectValue}
use Rattle.dobj_field.specs.declared.field.Field.{Field}
use Rattle.dobj_field.specs.declared.field.Field.TheVariants.{Id, OfType, Pointer}
use Rattle.dobj_field.specs.declared.reach.ScalarTest.{ScalarTest}
use Rattle.dobj_field.specs.declared.reach.ScalarTest.TheVariants.{Equals, Begins, Between}

-- what a token leads to: the value at this key of a JSON object, and by `_` each item of an array, in order
abbrev pub led_by : List ℕ → Value → List Value
led_by token null = []
led_by token (truth b) = []
led_by token (whole z) = []
led_by token (text s) = []
led_by token (list vs) = if pointwise nat_eq token (codes "_") then values_in vs else []
led_by token (table es) = option_to_list (entry_of token es)

-- what tokens lead to, one after another
abbrev pub led_to : List (List ℕ) → Value → List Value
led_to [] v = v ∷ []
led_to (token ∷ tokens) v = flat_map (led_to tokens) (led_by token v)

-- what tokens lead to in a value that may be absent
abbrev pub led_from : List (List ℕ) → Option Value → List Value
led_from tokens None = []
led_from tokens (Some v) = led_to tokens v

-- the values that a field reaches in an object, in order: a pointer those in `content`
abbrev pub reached : Field → ObjectValue → List Value
reached Id object = text object.id ∷ []
reached OfType object = text object.type_name ∷ []
reached (Pointer tokens) object = led_from tokens (entry_of (codes "content") (entries_from object.attributes))

-- the text of a string, a number or a boolean
abbrev pub scalar_text : Value → Option (List ℕ)
scalar_text null = None
scalar_text (truth true) = Some (codes "true")
scalar_text (truth false) = Some (codes "false")
scalar_text (whole z) = Some (signed_decimal z)
scalar_text (text s) = Some s
scalar_text (list vs) = None
scalar_text (table es) = None

-- there is a text, and it passes
abbrev pub text_passes : (List ℕ → Bool) → Option (List ℕ) → Bool
text_passes passes None = false
text_passes passes (Some s) = passes s

-- the number is no less than the bound, where there is one
abbrev pub is_from : Option ℤ → ℤ → Bool
is_from None z = true
is_from (Some low) z = int_le low z

-- the number is no more than the bound, where there is one
abbrev pub is_to : Option ℤ → ℤ → Bool
is_to None z = true
is_to (Some high) z = int_le z high

-- the value is a number in the range, its ends included
abbrev pub lies_between : Option ℤ → Option ℤ → Value → Bool
lies_between low high null = false
lies_between low high (truth b) = false
lies_between low high (whole z) = is_from low z && is_to high z
lies_between low high (text s) = false
lies_between low high (list vs) = false
lies_between low high (table es) = false

-- the value passes the test: its text is this word, or begins with it, or it is a number in the range
abbrev pub passes : ScalarTest → Value → Bool
passes (Equals word) v = text_passes (λ s. pointwise nat_eq s word) (scalar_text v)
passes (Begins word) v = text_passes (λ s. starts_with nat_eq s word) (scalar_text v)
passes (Between low high) v = lies_between low high v

-- the value is a string, a number or a boolean
abbrev pub is_scalar : Value → Bool
is_scalar null = false
is_scalar (truth b) = true
is_scalar (whole z) = true
is_scalar (text s) = true
is_scalar (list vs) = false
is_scalar (table es) = false
