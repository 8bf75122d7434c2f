-- What a run of each command asks of its host, leaves and prints.
use Rattle.std.specs.Prelude.{◌≡◌, ◌⊎◌, ℕ, List, [], None, Result}
use Rattle.std.specs.List.{AllByRecursion}
use Rattle.std.specs.Option.{ForSome}
use Rattle.base_core.specs.Causes.{Rose}
use Rattle.command_line.specs.Command.{Command, InitCommand, Answer, Init, Check, Compact, Migrate, Help, AreArgumentsOf, IsCommand}
use Rattle.disk_core.specs.Disk.{DiskState}
use Rattle.ext_ops.specs.Offered.{Offered}
use Rattle.link_core.specs.Host.{HostState, HandsOutDisk}
use Rattle.link_core.specs.Link.{SinkState}
use Rattle.repo_step.specs.History.{IsWhole}
use Rattle.session_core.specs.declared.end.SessionEnd.{SessionEnd}
use Rattle.session_core.specs.declared.end.SessionEnd.TheVariants.{Ended, Cut, Framing, ReadFault, WriteFault}
use Rattle.repo_top.specs.declared.file_run.FileEnd.{FileEnd}
use Rattle.repo_top.specs.declared.outcome.Note.{Note}
use Rattle.repo_top.specs.declared.outcome.Note.TheVariants as notes
use Rattle.repo_top.specs.Answer.{RanAnswer}
use Rattle.repo_top.specs.Files.{Checks, HandsBack, InitLeaves, IsOfPrinting, Prints, handed, made_line}
use Rattle.repo_top.specs.Rewrites.{Rewrites, migrated_line, used_line}
use Rattle.repo_top.specs.Run.{Left, Views, exit, exit_of_file}
use Rattle.store_files.specs.First.{Migrates}
use Rattle.store_files.specs.Rewriting.{Compacts}
use Rattle.store_files.specs.declared.fault.RewriteFault.{RewriteFault}

-- The host, and the sink that commands print on.
pub record World : Type 0 where
  pub host : HostState
  pub out : SinkState

abbrev pub world : HostState → SinkState → World
world host out = record { host = host; out = out }

-- a run without a link, and so without a session
pub record HasNoLink {E T : Type 0} (run : Left E T) : Type 0 where
  pub begun : run.begun ≡ None
  pub link : run.link ≡ None
  pub end : run.end ≡ None
  pub past : run.past ≡ []

-- A run of `init`: it asks for the file's disk and nothing else, makes a file there if it is empty, and prints its line.
pub record RanInit {E T : Type 0} (v : Views E T) (command : InitCommand) (before after : World)
    (run : Left E T) : Type 0 where
  pub end : FileEnd
  pub exit : run.exit ≡ exit_of_file end
  pub host : HandsOutDisk v.disk.state command.file before.host after.host (handed run.opened end)
  pub file : HandsBack v.disk.state (InitLeaves command.area) end run.opened run.disk
  pub out : Prints end (made_line command.area) before.out after.out
  pub no_link : HasNoLink run

-- A run of `check`: it asks for the file's disk and nothing else, reads it, and prints its numbers.
pub record RanCheck {E T : Type 0} (v : Views E T) (file : List ℕ) (before after : World) (run : Left E T) : Type 0 where
  pub end : FileEnd
  pub exit : run.exit ≡ exit_of_file end
  pub host : HandsOutDisk v.disk.state file before.host after.host (handed run.opened end)
  pub checks : Checks v.disk.state run.opened run.disk end before.out after.out
  pub no_link : HasNoLink run

-- A run of a command that writes a file anew: it asks for the file's disk and nothing else, and prints a line.
pub record RanRewrite {E T R : Type 0} (v : Views E T) (Does : DiskState → DiskState → Result R RewriteFault → Type 0)
    (line : R → List ℕ) (file : List ℕ) (before after : World) (run : Left E T) : Type 0 where
  pub end : FileEnd
  pub exit : run.exit ≡ exit_of_file end
  pub host : HandsOutDisk v.disk.state file before.host after.host (handed run.opened end)
  pub rewrites : Rewrites Does v.disk.state line run.opened run.disk end before.out after.out
  pub no_link : HasNoLink run

-- A run of `--help` or `--version`: it prints a text and asks the host for nothing. No clause says what the text is.
pub record RanHelp {E T : Type 0} (before after : World) (run : Left E T) : Type 0 where
  pub text : List ℕ
  pub end : FileEnd
  pub exit : run.exit ≡ exit_of_file end
  pub of_printing : IsOfPrinting end
  pub out : Prints end text before.out after.out
  pub host : after.host ≡ before.host
  pub no_disk : (run.opened ≡ None) × (run.disk ≡ None)
  pub no_link : HasNoLink run

-- a run of this command; `answer` prints nothing beside its replies
abbrev pub RanAs : {E T : Type 0} → Views E T → Command → Offered → World → World → Left E T → Type 0
RanAs v (Answer command) offers before after run =
    RanAnswer v command offers before.host after.host run × (after.out ≡ before.out)
RanAs v (Init command) offers before after run = RanInit v command before after run
RanAs v (Check file) offers before after run = RanCheck v file before after run
RanAs v (Compact file) offers before after run = RanRewrite v Compacts used_line file before after run
RanAs v (Migrate file) offers before after run = RanRewrite v Migrates migrated_line file before after run
RanAs v (Help topic) offers before after run = RanHelp before after run

-- A run of the command that the arguments are.
pub record RanCommand {E T : Type 0} (v : Views E T) (words : List (List ℕ)) (offers : Offered) (before after : World)
    (run : Left E T) : Type 0 where
  pub command : Command
  pub are : AreArgumentsOf command words
  pub ran : RanAs v command offers before after run

-- the note says what is wrong with the command line
abbrev pub IsWords : Note → Type 0
IsWords (notes.Words text) = Unit {0}
IsWords note = ⊥

-- A run that ended before any command: the command line is invalid, or out of memory. Nothing was touched.
pub record EndsEarly {E T : Type 0} (words : List (List ℕ)) (before after : World) (run : Left E T) : Type 0 where
  pub exit : ((run.exit.status ≡ 2) × IsWords run.exit.note × ¬ IsCommand words) ⊎ (run.exit ≡ exit 4 notes.Memory)
  pub untouched : after ≡ before
  pub no_disk : (run.opened ≡ None) × (run.disk ≡ None)
  pub no_link : HasNoLink run

-- what a run leaves
abbrev pub IsRunOf : {E T : Type 0} → Views E T → List (List ℕ) → Offered → World → World → Left E T → Type 0
IsRunOf v words offers before after run = RanCommand v words offers before after run ⊎ EndsEarly words before after run

-- No fault was counted of the host, of the disk and the link that it handed out, and of the sink.
pub record CountsNoFault {E T : Type 0} (v : Views E T) (before after : World) (run : Left E T) : Type 0 where
  pub host : ¬ Rose before.host.faults after.host.faults
  pub disk : ForSome run.disk (λ disk. ¬ Rose 0 (v.disk.state disk).faults)
  pub link : ForSome run.link (λ link. ¬ Rose 0 (v.link link).faults)
  pub out : ¬ Rose before.out.faults after.out.faults

-- the status of a run in which nothing failed: done, an invalid command line, a file that is refused, or out of memory
abbrev pub IsWithoutFault : ℕ → Type 0
IsWithoutFault status = (status ≡ 0) ⊎ ((status ≡ 2) ⊎ ((status ≡ 3) ⊎ ((status ≡ 4) ⊎ (status ≡ 10))))

-- a session's end that its input asks for
abbrev pub IsOfInput : SessionEnd → Type 0
IsOfInput Ended = Unit {0}
IsOfInput (Cut place) = Unit {0}
IsOfInput (Framing place reason) = Unit {0}
IsOfInput ReadFault = ⊥
IsOfInput WriteFault = ⊥

-- A run in which nothing failed: its status is one of these, every turn was done or out of memory, and its session ended as
-- its input asks.
pub record IsFaultless {E T : Type 0} (run : Left E T) : Type 0 where
  pub status : IsWithoutFault run.exit.status
  pub turns : AllByRecursion (λ e. IsWhole e.outcome) run.past
  pub end : ForSome run.end IsOfInput
