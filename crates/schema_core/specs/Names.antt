-- How the words of a schema and the kinds of values are spelled (JSON Schema draft 4, validation, section 5).
use Rattle.std.specs.Prelude.{ℕ, List, codes}
use Rattle.schema_core.specs.declared.kind.Kind.{Kind}
use Rattle.schema_core.specs.declared.kind.Kind.TheVariants as kind
use Rattle.schema_core.specs.declared.word.SchemaWord.{SchemaWord}
use Rattle.schema_core.specs.declared.word.SchemaWord.TheVariants as word

-- the spelling of a word
abbrev pub name_of : SchemaWord → List ℕ
name_of word.Kind = codes "type"
name_of word.Enum = codes "enum"
name_of word.Minimum = codes "minimum"
name_of word.Maximum = codes "maximum"
name_of word.MinLength = codes "minLength"
name_of word.MaxLength = codes "maxLength"
name_of word.MinItems = codes "minItems"
name_of word.MaxItems = codes "maxItems"
name_of word.Required = codes "required"
name_of word.AdditionalProperties = codes "additionalProperties"
name_of word.Properties = codes "properties"
name_of word.Items = codes "items"

-- the spelling of a kind
abbrev pub kind_name : Kind → List ℕ
kind_name kind.Null = codes "null"
kind_name kind.Boolean = codes "boolean"
kind_name kind.Integer = codes "integer"
kind_name kind.Number = codes "number"
kind_name kind.String = codes "string"
kind_name kind.Array = codes "array"
kind_name kind.Object = codes "object"
