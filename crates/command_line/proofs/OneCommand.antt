-- A command line is one command at most.
use Rattle.std.proofs.Common.{◌≡◌, ◌<◌, ◌^◌, ◌∙◌, ℕ, List, Option, Some, true, false, if◌then◌else◌, codes, bytes_eq, unwrap_or, refl, sym, ap, arith}
use Rattle.std.proofs.lemmas.Slice.Eq.{bytes_eq-Decides}
use Rattle.std.proofs.lemmas.Fmt.{decimal_injective}
use Rattle.clap.specs.Words.{Row, first_of, matches_of}
use Rattle.command_line.specs.Apps.{answer_app, init_app}
use Rattle.command_line.specs.declared.help.Topic.{Topic}
use Rattle.command_line.specs.declared.help.Topic.TheVariants as topics
use Rattle.command_line.specs.Command.{AnswerCommand, InitCommand, Command, Answer, Init, Check, Compact, Migrate, Help, AreArgumentsOf, AsksHelp, IsHelp, HasAnswer, HasInit, IsNamed, IsNumberIn, IsOnFile}

one_some : {A : Type 0} (a b : A) → Some a ≡ Some b → a ≡ b
one_some a b e = ap (λ o. unwrap_or o a) e

-- the first argument is one
apart : (k l : List ℕ) (words : List (List ℕ)) → bytes_eq k l ≡ false → IsNamed k words → IsNamed l words → ⊥
apart k l words e h g =
    let name : k ≡ l = one_some k l (sym h ∙ g) in
    absurd (let same : true ≡ false = sym ((bytes_eq-Decides k l).1 name) ∙ e in cc)

one_number : (rows : List Row) (id : List ℕ) (least greatest m n : ℕ) → greatest < 2 ^ 64
    → IsNumberIn rows id least greatest m → IsNumberIn rows id least greatest n → m ≡ n
one_number rows id least greatest m n small h g =
    decimal_injective m n (omega (arith, small, h.2)) (omega (arith, small, g.2)) (one_some _ _ (sym h.0 ∙ g.0))

abbrev answer_of : List ℕ → List ℕ → ℕ → Option (List ℕ) → Option (List ℕ) → ℕ → AnswerCommand
answer_of s a p c t r = record { service = s; address = a; port = p; accounts = c; store = t; request = r }

same_answer : (rows : List Row) (a b : AnswerCommand) → HasAnswer rows a → HasAnswer rows b → a ≡ b
same_answer rows a b h g =
    let service : a.service ≡ b.service = one_some _ _ (sym h.service.0 ∙ g.service.0) in
    let address : a.address ≡ b.address = one_some _ _ (sym h.address ∙ g.address) in
    let port : a.port ≡ b.port =
    one_number rows (codes "port") 1 65535 a.port b.port (omega arith) h.port g.port in
    let accounts : a.accounts ≡ b.accounts = sym h.accounts ∙ g.accounts in
    let store : a.store ≡ b.store = sym h.store ∙ g.store in
    let request : a.request ≡ b.request =
    one_number rows (codes "request") 64 16777216 a.request b.request (omega arith) h.request g.request in
    let same : answer_of a.service a.address a.port a.accounts a.store a.request
    ≡ answer_of b.service b.address b.port b.accounts b.store b.request =
    rw (service, address, port, accounts, store, request) refl in same

abbrev init_of : List ℕ → ℕ → InitCommand
init_of f n = record { file = f; area = n }

same_init : (rows : List Row) (a b : InitCommand) → HasInit rows a → HasInit rows b → a ≡ b
same_init rows a b h g =
    let file : a.file ≡ b.file = one_some _ _ (sym h.file ∙ g.file) in
    let area : a.area ≡ b.area =
    one_number rows (codes "area") 64 268435456 a.area b.area (omega arith) h.area g.area in
    let same : init_of a.file a.area ≡ init_of b.file b.area = rw (file, area) refl in same

-- the first word of a help, and the topic of a first word
abbrev name_of : Topic → List ℕ
name_of topics.Program = codes "--help"
name_of topics.Version = codes "--version"
name_of topics.Answer = codes "answer"
name_of topics.Init = codes "init"
name_of topics.Check = codes "check"
name_of topics.Compact = codes "compact"
name_of topics.Migrate = codes "migrate"

abbrev topic_at : List ℕ → Topic
topic_at name =
    if bytes_eq name (codes "--help") then topics.Program
    else if bytes_eq name (codes "--version") then topics.Version
    else if bytes_eq name (codes "answer") then topics.Answer
    else if bytes_eq name (codes "init") then topics.Init
    else if bytes_eq name (codes "check") then topics.Check
    else if bytes_eq name (codes "compact") then topics.Compact
    else topics.Migrate

topic_at-name_of : (t : Topic) → topic_at (name_of t) ≡ t
topic_at-name_of topics.Program = refl
topic_at-name_of topics.Version = refl
topic_at-name_of topics.Answer = refl
topic_at-name_of topics.Init = refl
topic_at-name_of topics.Check = refl
topic_at-name_of topics.Compact = refl
topic_at-name_of topics.Migrate = refl

help_named : (t : Topic) (words : List (List ℕ)) → IsHelp t words → IsNamed (name_of t) words
help_named topics.Program words h = h
help_named topics.Version words h = h
help_named topics.Answer words h = h.0
help_named topics.Init words h = h.0
help_named topics.Check words h = h.0
help_named topics.Compact words h = h.0
help_named topics.Migrate words h = h.0

same_topic : (t u : Topic) (words : List (List ℕ)) → IsHelp t words → IsHelp u words → t ≡ u
same_topic t u words h g =
    sym (topic_at-name_of t) ∙ (ap topic_at (one_some _ _ (sym (help_named t words h) ∙ help_named u words g)) ∙ topic_at-name_of u)

-- a command that is given a file is given one
one_file : (name a b : List ℕ) (words : List (List ℕ)) → IsOnFile name a words → IsOnFile name b words → a ≡ b
one_file name a b words h g = one_some a b (sym h.value ∙ g.value)

-- a command that asks for no help is no help
no_answer : (t : Topic) (words : List (List ℕ)) → IsHelp t words → IsNamed (codes "answer") words → (AsksHelp words → ⊥) → ⊥
no_answer topics.Program words h named none = apart (codes "--help") (codes "answer") words refl h named
no_answer topics.Version words h named none = apart (codes "--version") (codes "answer") words refl h named
no_answer topics.Answer words h named none = none h.1
no_answer topics.Init words h named none = apart (codes "init") (codes "answer") words refl h.0 named
no_answer topics.Check words h named none = apart (codes "check") (codes "answer") words refl h.0 named
no_answer topics.Compact words h named none = apart (codes "compact") (codes "answer") words refl h.0 named
no_answer topics.Migrate words h named none = apart (codes "migrate") (codes "answer") words refl h.0 named

no_init : (t : Topic) (words : List (List ℕ)) → IsHelp t words → IsNamed (codes "init") words → (AsksHelp words → ⊥) → ⊥
no_init topics.Program words h named none = apart (codes "--help") (codes "init") words refl h named
no_init topics.Version words h named none = apart (codes "--version") (codes "init") words refl h named
no_init topics.Answer words h named none = apart (codes "answer") (codes "init") words refl h.0 named
no_init topics.Init words h named none = none h.1
no_init topics.Check words h named none = apart (codes "check") (codes "init") words refl h.0 named
no_init topics.Compact words h named none = apart (codes "compact") (codes "init") words refl h.0 named
no_init topics.Migrate words h named none = apart (codes "migrate") (codes "init") words refl h.0 named

no_check : (t : Topic) (words : List (List ℕ)) → IsHelp t words → IsNamed (codes "check") words → (AsksHelp words → ⊥) → ⊥
no_check topics.Program words h named none = apart (codes "--help") (codes "check") words refl h named
no_check topics.Version words h named none = apart (codes "--version") (codes "check") words refl h named
no_check topics.Answer words h named none = apart (codes "answer") (codes "check") words refl h.0 named
no_check topics.Init words h named none = apart (codes "init") (codes "check") words refl h.0 named
no_check topics.Check words h named none = none h.1
no_check topics.Compact words h named none = apart (codes "compact") (codes "check") words refl h.0 named
no_check topics.Migrate words h named none = apart (codes "migrate") (codes "check") words refl h.0 named

no_compact : (t : Topic) (words : List (List ℕ)) → IsHelp t words → IsNamed (codes "compact") words → (AsksHelp words → ⊥) → ⊥
no_compact topics.Program words h named none = apart (codes "--help") (codes "compact") words refl h named
no_compact topics.Version words h named none = apart (codes "--version") (codes "compact") words refl h named
no_compact topics.Answer words h named none = apart (codes "answer") (codes "compact") words refl h.0 named
no_compact topics.Init words h named none = apart (codes "init") (codes "compact") words refl h.0 named
no_compact topics.Check words h named none = apart (codes "check") (codes "compact") words refl h.0 named
no_compact topics.Compact words h named none = none h.1
no_compact topics.Migrate words h named none = apart (codes "migrate") (codes "compact") words refl h.0 named

no_migrate : (t : Topic) (words : List (List ℕ)) → IsHelp t words → IsNamed (codes "migrate") words → (AsksHelp words → ⊥) → ⊥
no_migrate topics.Program words h named none = apart (codes "--help") (codes "migrate") words refl h named
no_migrate topics.Version words h named none = apart (codes "--version") (codes "migrate") words refl h named
no_migrate topics.Answer words h named none = apart (codes "answer") (codes "migrate") words refl h.0 named
no_migrate topics.Init words h named none = apart (codes "init") (codes "migrate") words refl h.0 named
no_migrate topics.Check words h named none = apart (codes "check") (codes "migrate") words refl h.0 named
no_migrate topics.Compact words h named none = apart (codes "compact") (codes "migrate") words refl h.0 named
no_migrate topics.Migrate words h named none = none h.1

pub one_command : (words : List (List ℕ)) (a b : Command) → AreArgumentsOf a words → AreArgumentsOf b words → a ≡ b
one_command words (Answer a) (Answer b) h g =
    ap (λ (c : AnswerCommand). Answer c) (same_answer (matches_of answer_app words) a b h.0.values g.0.values)
one_command words (Answer a) (Init b) h g = absurd (apart (codes "answer") (codes "init") words refl h.0.named g.0.named)
one_command words (Answer a) (Check b) h g = absurd (apart (codes "answer") (codes "check") words refl h.0.named g.0.named)
one_command words (Answer a) (Compact b) h g = absurd (apart (codes "answer") (codes "compact") words refl h.0.named g.0.named)
one_command words (Answer a) (Migrate b) h g = absurd (apart (codes "answer") (codes "migrate") words refl h.0.named g.0.named)
one_command words (Init a) (Answer b) h g = absurd (apart (codes "init") (codes "answer") words refl h.0.named g.0.named)
one_command words (Init a) (Init b) h g =
    ap (λ (c : InitCommand). Init c) (same_init (matches_of init_app words) a b h.0.values g.0.values)
one_command words (Init a) (Check b) h g = absurd (apart (codes "init") (codes "check") words refl h.0.named g.0.named)
one_command words (Init a) (Compact b) h g = absurd (apart (codes "init") (codes "compact") words refl h.0.named g.0.named)
one_command words (Init a) (Migrate b) h g = absurd (apart (codes "init") (codes "migrate") words refl h.0.named g.0.named)
one_command words (Check a) (Answer b) h g = absurd (apart (codes "check") (codes "answer") words refl h.0.named g.0.named)
one_command words (Check a) (Init b) h g = absurd (apart (codes "check") (codes "init") words refl h.0.named g.0.named)
one_command words (Check a) (Check b) h g = ap (λ (f : List ℕ). Check f) (one_file (codes "check") a b words h.0 g.0)
one_command words (Check a) (Compact b) h g = absurd (apart (codes "check") (codes "compact") words refl h.0.named g.0.named)
one_command words (Check a) (Migrate b) h g = absurd (apart (codes "check") (codes "migrate") words refl h.0.named g.0.named)
one_command words (Compact a) (Answer b) h g = absurd (apart (codes "compact") (codes "answer") words refl h.0.named g.0.named)
one_command words (Compact a) (Init b) h g = absurd (apart (codes "compact") (codes "init") words refl h.0.named g.0.named)
one_command words (Compact a) (Check b) h g = absurd (apart (codes "compact") (codes "check") words refl h.0.named g.0.named)
one_command words (Compact a) (Compact b) h g = ap (λ (f : List ℕ). Compact f) (one_file (codes "compact") a b words h.0 g.0)
one_command words (Compact a) (Migrate b) h g = absurd (apart (codes "compact") (codes "migrate") words refl h.0.named g.0.named)
one_command words (Migrate a) (Answer b) h g = absurd (apart (codes "migrate") (codes "answer") words refl h.0.named g.0.named)
one_command words (Migrate a) (Init b) h g = absurd (apart (codes "migrate") (codes "init") words refl h.0.named g.0.named)
one_command words (Migrate a) (Check b) h g = absurd (apart (codes "migrate") (codes "check") words refl h.0.named g.0.named)
one_command words (Migrate a) (Compact b) h g = absurd (apart (codes "migrate") (codes "compact") words refl h.0.named g.0.named)
one_command words (Migrate a) (Migrate b) h g = ap (λ (f : List ℕ). Migrate f) (one_file (codes "migrate") a b words h.0 g.0)
one_command words (Help t) (Help u) h g = ap (λ (x : Topic). Help x) (same_topic t u words h g)
one_command words (Help t) (Answer b) h g = absurd (no_answer t words h g.0.named g.1)
one_command words (Help t) (Init b) h g = absurd (no_init t words h g.0.named g.1)
one_command words (Help t) (Check b) h g = absurd (no_check t words h g.0.named g.1)
one_command words (Help t) (Compact b) h g = absurd (no_compact t words h g.0.named g.1)
one_command words (Help t) (Migrate b) h g = absurd (no_migrate t words h g.0.named g.1)
one_command words (Answer a) (Help u) h g = absurd (no_answer u words g h.0.named h.1)
one_command words (Init a) (Help u) h g = absurd (no_init u words g h.0.named h.1)
one_command words (Check a) (Help u) h g = absurd (no_check u words g h.0.named h.1)
one_command words (Compact a) (Help u) h g = absurd (no_compact u words g h.0.named h.1)
one_command words (Migrate a) (Help u) h g = absurd (no_migrate u words g h.0.named h.1)
