-- What a reader takes for something is kept.
use Rattle.std.proofs.Common.{◌≡◌, ◌≢◌, ℕ, List, [], ◌∷◌, length, Option, None, Some, Ok, refl}
use Rattle.doip_json.specs.Value.{Value, null, table, Entries, no_entries, entry, entries_from}
use Rattle.doip_message.specs.Asked.{Content, no_content, one_value, parts}
use Rattle.doip_message.specs.Reading.{unless_null, attributes_in, authentication_in, input_in}
use Rattle.doip_message.specs.Reply.{output_value, output_parts}
use Rattle.doip_exchange.specs.Question.{attributes_asked, IsBrought, IsShown}

pub attributes_back : (es : Entries) → attributes_in (unless_null (attributes_asked es)) ≡ Ok es
attributes_back no_entries = refl
attributes_back (entry k v es) = refl

pub brought_back : (c : Content) → IsBrought c → input_in (unless_null (output_value c)) (output_parts c) ≡ Ok c
brought_back no_content h = refl
brought_back (one_value null) h = absurd (h refl)
brought_back (one_value v) h = refl
brought_back (parts []) h = absurd (h refl)
brought_back (parts (s ∷ ss)) h = refl

pub shown_back : (who : Option Value) → IsShown who → authentication_in (unless_null who) ≡ who
shown_back None h = refl
shown_back (Some null) h = absurd (h.0 refl)
shown_back (Some (table no_entries)) h = absurd (h.1 refl)
shown_back (Some v) h = refl

pub some_asked : (es : List (List ℕ × Value)) → length es ≢ 0
    → Some (table (entries_from es)) ≡ attributes_asked (entries_from es)
some_asked [] h = absurd (h refl)
some_asked (e ∷ es) h = refl
