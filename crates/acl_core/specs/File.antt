-- What an accounts file is: this project's own format, over JSON (RFC 8259) and SHA-256 in hexadecimal digits.
use Rattle.std.specs.Prelude.{ℕ, List, [], ◌∷◌, length, codes, nat_eq, nat_le, Bool, true, not, ◌&&◌, if◌then◌else◌, Option, Some, None, option_map, option_and_then, Result, Ok, Err}
use Rattle.std.specs.List.{list_any}
use Rattle.std.specs.Cmp.Lexicographic.{pointwise}
use Rattle.doip_json.specs.Value.{Value, null, text, list, Values, no_values, value, values_in}
use Rattle.doip_json.specs.Look.{field_of}
use Rattle.doip_json.specs.Read.{reading}
use Rattle.doip_json.specs.declared.fault.TextFault.{TextFault}
use Rattle.hex.specs.declared.error.FromHexError.{FromHexError}
use Rattle.hex.specs.Hex.{decode_sized}
use Rattle.acl_core.specs.Known.{Account, account, account_of, Known, known}

-- the bytes of a string
abbrev pub string_in : Value → Option (List ℕ)
string_in (text s) = Some s
string_in v = None

-- the string at a key of an object
abbrev pub string_at : List ℕ → Value → Option (List ℕ)
string_at key v = option_and_then string_in (field_of key v)

-- the words of access lists that are no identifiers of accounts, and the name of a caller without an account
abbrev pub reserved : List (List ℕ)
reserved = codes "public" ∷ codes "authenticated" ∷ codes "creator" ∷ codes "self" ∷ codes "anonymous" ∷ []

-- whether an identifier is one of these words
abbrev pub is_reserved : List ℕ → Bool
is_reserved id = list_any (λ word. pointwise nat_eq id word) reserved

-- an identifier: 1 to 255 bytes, and none of these words
abbrev pub unless_refused : List ℕ → Option (List ℕ)
unless_refused id = if nat_le 1 (length id) && nat_le (length id) 255 && not (is_reserved id) then Some id else None

-- the identifier of an account
abbrev pub id_in : Value → Option (List ℕ)
id_in v = option_and_then unless_refused (string_at (codes "id") v)

-- what was decoded, if it was
abbrev pub if_decoded : Result (List ℕ) FromHexError → Option (List ℕ)
if_decoded (Ok bytes) = Some bytes
if_decoded (Err e) = None

-- the hash of an account: 64 hexadecimal digits of either case
abbrev pub hash_in : Value → Option (List ℕ)
hash_in v = option_and_then (λ digits. if_decoded (decode_sized digits 32)) (string_at (codes "hash") v)

-- an account of these parts, if each is there
abbrev pub of_parts : Option (List ℕ) → Option (List ℕ) → Option (List ℕ) → Option Account
of_parts (Some id) (Some salt) (Some hash) = Some (account id salt hash)
of_parts id salt hash = None

-- an account, by the values at its keys; other keys are ignored
abbrev pub account_in : Value → Option Account
account_in v = of_parts (id_in v) (string_at (codes "salt") v) (hash_in v)

-- the accounts of an array, if each item is one
abbrev pub each_in : Values → Option (List Account)
each_in no_values = Some []
each_in (value v vs) = option_and_then (λ a. option_map (λ rest. a ∷ rest) (each_in vs)) (account_in v)

-- whether an identifier is there
abbrev pub has_id : List ℕ → List Account → Bool
has_id id = list_any (λ a. pointwise nat_eq id a.id)

-- whether no identifier is there twice
abbrev pub are_different : List Account → Bool
are_different [] = true
are_different (a ∷ rest) = not (list_any (λ b. pointwise nat_eq b.id a.id) rest) && are_different rest

-- the accounts, if their identifiers differ
abbrev pub unless_repeated : List Account → Option (List Account)
unless_repeated accounts = if are_different accounts then Some accounts else None

-- the accounts of a file: at most 1,000, of different identifiers
abbrev pub listed : Option Value → Option (List Account)
listed (Some (list vs)) =
    if nat_le (length (values_in vs)) 1000 then option_and_then unless_repeated (each_in vs) else None
listed other = None

-- the admin: absent, null, or the identifier of one of the accounts
abbrev pub admin_among : List Account → Option Value → Option (Option (List ℕ))
admin_among accounts None = Some None
admin_among accounts (Some null) = Some None
admin_among accounts (Some (text id)) = option_map (λ a. Some id) (account_of id accounts)
admin_among accounts other = None

-- the accounts that a JSON value lists; other keys are ignored
abbrev pub known_in : Value → Option Known
known_in v =
    option_and_then (λ accounts. option_map (known accounts) (admin_among accounts (field_of (codes "admin") v)))
    (listed (field_of (codes "accounts") v))

-- what a text that was read lists
abbrev pub if_read : Result Value TextFault → Option Known
if_read (Ok v) = known_in v
if_read (Err fault) = None

-- the accounts that a file lists: at most 1,048,576 bytes, which are read at depth 64
abbrev pub file_known : List ℕ → Option Known
file_known bytes = if nat_le (length bytes) 1048576 then if_read (reading bytes 64) else None
