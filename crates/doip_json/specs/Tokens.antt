-- The tokens of a value, in the words of `json`, whose writer takes them. A private writer is stated by these.
use Rattle.std.specs.Prelude.{List, [], ◌∷◌, ◌++◌}
use Rattle.std.specs.Fmt.{signed_decimal}
use Rattle.json.specs.Token as json
use Rattle.doip_json.specs.Value.{Value, null, truth, whole, text, list, table, Values, no_values, value, Entries, no_entries, entry}

-- a value's tokens, in order
abbrev mutual
  pub tokens_of : Value → List json.Token
  tokens_of null = json.null ∷ []
  tokens_of (truth b) = json.boolean b ∷ []
  tokens_of (whole z) = json.number (signed_decimal z) ∷ []
  tokens_of (text s) = json.string s ∷ []
  tokens_of (list vs) = json.begin_array ∷ (item_tokens vs ++ json.end_array ∷ [])
  tokens_of (table es) = json.begin_object ∷ (entry_tokens es ++ json.end_object ∷ [])

  -- those of an array's items
  pub item_tokens : Values → List json.Token
  item_tokens no_values = []
  item_tokens (value v vs) = tokens_of v ++ item_tokens vs

  -- those of an object's entries
  pub entry_tokens : Entries → List json.Token
  entry_tokens no_entries = []
  entry_tokens (entry k v es) = json.key k ∷ (tokens_of v ++ entry_tokens es)
