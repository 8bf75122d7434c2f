-- The arguments of the program as a command. An argument after `--` is never an option.
use Rattle.std.specs.Prelude.{◌≡◌, ◌≤◌, ℕ, List, [], Option, Some, codes, decimal, length, nat_eq, option_copied, slice_get}
use Rattle.std.specs.List.{before_first}
use Rattle.clap.specs.Words.{Row, first_of, matches_of, fault_of}
use Rattle.dobj_model.specs.Name.{IsName}
use Rattle.command_line.specs.Apps.{answer_app, init_app, file_app}
use Rattle.command_line.specs.declared.answer.AnswerArguments.{AnswerArguments}
use Rattle.command_line.specs.declared.init.InitArguments.{InitArguments}
use Rattle.command_line.specs.declared.arguments.Arguments.{Arguments}
use Rattle.command_line.specs.declared.arguments.Arguments.TheVariants as arguments
use Rattle.command_line.specs.declared.help.Topic.{Topic}
use Rattle.command_line.specs.declared.help.Topic.TheVariants as topics
use Rattle.command_line.specs.declared.fault.ArgumentsFault.{ArgumentsFault}
use Rattle.command_line.specs.declared.fault.ArgumentsFault.TheVariants.{Invalid, Memory}

-- what `answer` is given, with the defaults of what is left out
pub record AnswerCommand : Type 0 where
  pub service : List ℕ
  pub address : List ℕ
  pub port : ℕ
  pub accounts : Option (List ℕ)
  pub store : Option (List ℕ)
  pub request : ℕ

-- what `init` is given, with the default of what is left out
pub record InitCommand : Type 0 where
  pub file : List ℕ
  pub area : ℕ

-- a command; `check`, `compact` and `migrate` are given a file, a help is of a topic
pub data Command : Type 0 where
  Answer : AnswerCommand → Command
  Init : InitCommand → Command
  Check : List ℕ → Command
  Compact : List ℕ → Command
  Migrate : List ℕ → Command
  Help : Topic → Command

-- the prefix of a service: what comes before the first '/', or all of it
abbrev pub prefix_of : List ℕ → List ℕ
prefix_of service = before_first (λ b. nat_eq b 47) service

-- a service is named, and its prefix has at most 200 bytes
abbrev pub IsService : List ℕ → Type 0
IsService service = IsName service × (length (prefix_of service) ≤ 200)

-- the first argument is the name of the command
abbrev pub IsNamed : List ℕ → List (List ℕ) → Type 0
IsNamed name words = slice_get words 0 ≡ Some name

-- the value with this id is a number within these bounds, in decimal digits with no sign and no leading zero
abbrev pub IsNumberIn : List Row → List ℕ → ℕ → ℕ → ℕ → Type 0
IsNumberIn rows id least greatest n = (first_of id rows ≡ Some (decimal n)) × (least ≤ n) × (n ≤ greatest)

-- the value with this id is a service
abbrev pub IsServiceIn : List Row → List ℕ → Type 0
IsServiceIn rows service = (first_of (codes "service") rows ≡ Some service) × IsService service

-- the values that clap finds are those of this `answer`
pub record HasAnswer (rows : List Row) (command : AnswerCommand) : Type 0 where
  pub service : IsServiceIn rows command.service
  pub address : first_of (codes "address") rows ≡ Some command.address
  pub port : IsNumberIn rows (codes "port") 1 65535 command.port
  pub accounts : first_of (codes "accounts") rows ≡ command.accounts
  pub store : first_of (codes "store") rows ≡ command.store
  pub request : IsNumberIn rows (codes "request") 64 16777216 command.request

-- the values that clap finds are those of this `init`
pub record HasInit (rows : List Row) (command : InitCommand) : Type 0 where
  pub file : first_of (codes "file") rows ≡ Some command.file
  pub area : IsNumberIn rows (codes "area") 64 268435456 command.area

-- The arguments are `answer` and what clap accepts as its own.
pub record IsAnswer (command : AnswerCommand) (words : List (List ℕ)) : Type 0 where
  pub named : IsNamed (codes "answer") words
  pub accepted : fault_of answer_app words ≡ []
  pub values : HasAnswer (matches_of answer_app words) command

-- The arguments are `init` and what clap accepts as its own.
pub record IsInit (command : InitCommand) (words : List (List ℕ)) : Type 0 where
  pub named : IsNamed (codes "init") words
  pub accepted : fault_of init_app words ≡ []
  pub values : HasInit (matches_of init_app words) command

-- The arguments are this command, which is given a file alone, and what clap accepts as its own.
pub record IsOnFile (name file : List ℕ) (words : List (List ℕ)) : Type 0 where
  pub named : IsNamed name words
  pub accepted : fault_of (file_app name) words ≡ []
  pub value : first_of (codes "file") (matches_of (file_app name) words) ≡ Some file

-- `--help` is the only word after the first
pub record AsksHelp (words : List (List ℕ)) : Type 0 where
  pub alone : length words ≡ 2
  pub help : slice_get words 1 ≡ Some (codes "--help")

-- `--help` or `--version` as the first word, or `--help` as the only word after a command's name
abbrev pub IsHelp : Topic → List (List ℕ) → Type 0
IsHelp topics.Program words = IsNamed (codes "--help") words
IsHelp topics.Version words = IsNamed (codes "--version") words
IsHelp topics.Answer words = IsNamed (codes "answer") words × AsksHelp words
IsHelp topics.Init words = IsNamed (codes "init") words × AsksHelp words
IsHelp topics.Check words = IsNamed (codes "check") words × AsksHelp words
IsHelp topics.Compact words = IsNamed (codes "compact") words × AsksHelp words
IsHelp topics.Migrate words = IsNamed (codes "migrate") words × AsksHelp words

-- the arguments are those of the command, and ask for no help, or they are those of a help
abbrev pub AreArgumentsOf : Command → List (List ℕ) → Type 0
AreArgumentsOf (Answer command) words = IsAnswer command words × ¬ AsksHelp words
AreArgumentsOf (Init command) words = IsInit command words × ¬ AsksHelp words
AreArgumentsOf (Check file) words = IsOnFile (codes "check") file words × ¬ AsksHelp words
AreArgumentsOf (Compact file) words = IsOnFile (codes "compact") file words × ¬ AsksHelp words
AreArgumentsOf (Migrate file) words = IsOnFile (codes "migrate") file words × ¬ AsksHelp words
AreArgumentsOf (Help topic) words = IsHelp topic words

-- the command line is valid
abbrev pub IsCommand : List (List ℕ) → Type 0
IsCommand words = (command : Command) × AreArgumentsOf command words

-- the arguments of a command, as a command
abbrev pub answer_in : AnswerArguments → AnswerCommand
answer_in a = record {
  service = a.service.now;
  address = a.address.now;
  port = a.port;
  accounts = option_copied a.accounts;
  store = option_copied a.store;
  request = a.request;
}

abbrev pub init_in : InitArguments → InitCommand
init_in a = record { file = a.file.now; area = a.area }

abbrev pub command_in : Arguments → Command
command_in (arguments.Answer a) = Answer (answer_in a)
command_in (arguments.Init a) = Init (init_in a)
command_in (arguments.Check a) = Check a.file.now
command_in (arguments.Compact a) = Compact a.file.now
command_in (arguments.Migrate a) = Migrate a.file.now
command_in (arguments.Help h) = Help h.topic

-- the fault is that of an invalid command line, and not out of memory
abbrev pub IsInvalid : ArgumentsFault → Type 0
IsInvalid (Invalid text) = Unit {0}
IsInvalid Memory = ⊥
