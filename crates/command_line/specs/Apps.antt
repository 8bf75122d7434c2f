-- The commands as clap's own definitions see them. What clap accepts, and which values it finds, is said over these.
use Rattle.std.specs.Prelude.{[], ◌∷◌, Some, codes, true}
use Rattle.clap.specs.Words.{App, Rule, Text, new_app, new_rule, with_rule}
use Rattle.clap.specs.Simple.{on_top}

-- an argument that has to be given
abbrev pub required_rule : Text → Rule
required_rule id = record (new_rule id) { value_names = 1; required = true }

-- an option with a value, as `--store FILE` or `--store=FILE`
abbrev pub option_rule : Text → Rule
option_rule id = record (new_rule id) { long = Some id; value_names = 1 }

-- an option with a value that has a default
abbrev pub default_rule : Text → Text → Rule
default_rule id default = record (option_rule id) { defaults = default ∷ [] }

-- a command of this name, with no option for help
abbrev pub bare_app : Text → App
bare_app name = on_top (λ s. record s { disable_help_flag = true }) (new_app name)

-- `answer SERVICE [--address A] [--port N] [--accounts FILE] [--store FILE] [--request N]`
abbrev pub answer_app : App
answer_app = with_rule (with_rule (with_rule (with_rule (with_rule (with_rule (bare_app (codes "answer"))
    (required_rule (codes "service")))
    (default_rule (codes "address") (codes "127.0.0.1")))
    (default_rule (codes "port") (codes "9000")))
    (option_rule (codes "accounts")))
    (option_rule (codes "store")))
    (default_rule (codes "request") (codes "16777216"))

-- `init FILE [--area N]`
abbrev pub init_app : App
init_app = with_rule (with_rule (bare_app (codes "init")) (required_rule (codes "file")))
    (default_rule (codes "area") (codes "268435456"))

-- `check FILE`, and each other command that is given a file alone
abbrev pub file_app : Text → App
file_app name = with_rule (bare_app name) (required_rule (codes "file"))
