-- The pairs of a session, as the history of its pass grows.
use Rattle.std.proofs.Common.{◌≡◌, ℕ, List, [], ◌∷◌, ◌++◌, Bool, true, false, ◌&&◌, nat_eq, if◌then◌else◌, refl, sym, ap, ◌∙◌, append-nil, eq-eqb}
use Rattle.std.specs.List.{AllByRecursion}
use Rattle.doip_message.specs.Pairs.{Pair, pair}
use Rattle.doip_message.specs.Reply.{reply_text}
use Rattle.history_lock.specs.declared.board.Entered.{Entered}
use Rattle.history_lock.specs.History.{entered, entries, entries_by}
use Rattle.repo_step.specs.Setting.{Setting, State}
use Rattle.repo_step.specs.History.{Entry, after, reply, state_after, state_of}
use Rattle.repo_step.proofs.Histories.{pairs-append, pairs_more, pairs_none}
use Rattle.lane_server.specs.Turns.{Start}
use Rattle.lane_server.specs.Growing.{is_by, pairs_by}

-- the state after turns is that after their entries
pub state_entries : (setting : Setting) (s : State) (h : List (Entered Entry))
    → state_after setting (λ t. t.entry) s h ≡ state_of setting s (entries h)
state_entries setting s [] = refl
state_entries setting s (t ∷ ts) = state_entries setting (after setting s t.entry) ts

not_mine : (b c : Bool) (e : Entry) (es : List Entry) → (if b then e ∷ es else es) ≡ []
    → ((b && c) ≡ false) × (es ≡ [])
not_mine true c e es is = absurd (cc is)
not_mine false c e es is = (refl, is)

none_by : (number session : ℕ) (h : List (Entered Entry)) → entries_by number h ≡ []
    → AllByRecursion (λ t. is_by number session t ≡ false) h
none_by number session [] is = tt
none_by number session (t ∷ ts) is =
    let one = not_mine (nat_eq t.by number) (nat_eq t.entry.session session) t.entry (entries_by number ts) is in
    (one.0, none_by number session ts one.1)

not_this : (b c : Bool) (P : Entry → Type 0) (e : Entry) (es : List Entry)
    → AllByRecursion P (if b then e ∷ es else es) → (P e → c ≡ false) → ((b && c) ≡ false) × AllByRecursion P es
not_this true c P e es all f = (f all.0, all.1)
not_this false c P e es all f = (refl, all)

-- a history in which the entries under a number are of other sessions has no turn of this one
pub none_of : (number session : ℕ) (P : Entry → Type 0) (h : List (Entered Entry))
    → ((e : Entry) → P e → nat_eq e.session session ≡ false) → AllByRecursion P (entries_by number h)
    → AllByRecursion (λ t. is_by number session t ≡ false) h
none_of number session P [] f all = tt
none_of number session P (t ∷ ts) f all =
    let one = not_this (nat_eq t.by number) (nat_eq t.entry.session session) P t.entry (entries_by number ts) all
    (f t.entry) in
    (one.0, none_of number session P ts f one.1)

module _ (start : Start) (number session : ℕ) where
  -- turns that are none of this session give no pair
  pub pairs_without : (before more : List (Entered Entry)) → AllByRecursion (λ t. is_by number session t ≡ false) more
      → pairs_by start number session (before ++ more) ≡ pairs_by start number session before
  pairs_without before more none =
      pairs-append start.setting (λ (t : Entered Entry). t.entry) (is_by number session) start.first before more
      ∙ (ap (λ (w : List Pair). pairs_by start number session before ++ w)
      (pairs_none start.setting (λ (t : Entered Entry). t.entry) (is_by number session)
      (state_after start.setting (λ (t : Entered Entry). t.entry) start.first before) more none)
      ∙ append-nil (pairs_by start number session before))

  -- turns of other passes give no pair
  pub pairs_others : (before between : List (Entered Entry)) → entries_by number between ≡ []
      → pairs_by start number session (before ++ between) ≡ pairs_by start number session before
  pairs_others before between none = pairs_without before between (none_by number session between none)

  -- turns of other passes, and then one of this session
  pub pairs_turn : (before between : List (Entered Entry)) (e : Entry) (text : List ℕ) → entries_by number between ≡ []
      → e.session ≡ session
      → text ≡ reply_text (reply start.setting (state_of start.setting start.first (entries (before ++ between))) e)
      → pairs_by start number session ((before ++ between) ++ entered number e ∷ [])
      ≡ pairs_by start number session before ++ pair e.message text ∷ []
  pairs_turn before between e text none is_session is_text =
      let words : text ≡ reply_text (reply start.setting
      (state_after start.setting (λ (t : Entered Entry). t.entry) start.first (before ++ between)) e) =
      is_text ∙ ap (λ (s : State). reply_text (reply start.setting s e))
      (sym (state_entries start.setting start.first (before ++ between))) in
      let mine : is_by number session (entered number e) ≡ true =
      rw (eq-eqb number number refl, eq-eqb e.session session is_session) refl in
      pairs_more start.setting (λ (t : Entered Entry). t.entry) (is_by number session) start.first (before ++ between)
      (entered number e) mine
      ∙ (λ i. pairs_others before between none i ++ pair e.message (sym words i) ∷ [])
