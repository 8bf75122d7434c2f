-- The turns of a lock over a store, as turns of the store.
use Rattle.std.proofs.Common.{◌≡◌, ℕ, List, [], ◌∷◌, Option, sym, ap, ◌∙◌, subst}
use Rattle.disk_core.specs.declared.disk.Disk.{Ghosts}
use Rattle.doip_message.specs.Reply.{reply_text}
use Rattle.history_lock.specs.History.{Leads, Runs}
use Rattle.repo_step.specs.Setting.{Setting}
use Rattle.repo_step.specs.History.{Entry, reply, state_of}
use Rattle.repo_store.specs.declared.store.Store.{Store}
use Rattle.repo_store.specs.declared.work.Work.{Work}
use Rattle.repo_store.specs.declared.work.Told.{Told}
use Rattle.repo_store.specs.Law.{IsTurn, LawOfRuns}
use Rattle.repo_store.specs.Store.{Turns, planner_in, seen_of, text_with}
use Rattle.lane_server.specs.Turns.{LawOfTurns, TakesTurn, start_of}

module _ {D C P : Type 0} (g : Ghosts D) (given : C → Option (List ℕ)) (setting_of : P → Setting) where
  -- the setting stays
  pub setting_stays : (first last : Store D C P g) (history : List Entry)
      → Runs (Leads (TakesTurn given setting_of)) first history last
      → setting_of (planner_in last) ≡ setting_of (planner_in first)
  setting_stays first last [] r = ap (λ (s : Store D C P g). setting_of (planner_in s)) (sym r)
  setting_stays first last (e ∷ es) r = setting_stays r.0 last es r.2 ∙ r.1.2.setting

  -- each turn is one of the store
  pub lock_turns : (first last : Store D C P g) (history : List Entry)
      → Runs (Leads (TakesTurn given setting_of)) first history last
      → Runs (IsTurn (setting_of (planner_in first))) (seen_of given first) history (seen_of given last)
  lock_turns first last [] r = ap (seen_of given) r
  lock_turns first last (e ∷ es) r =
      let told : Told = r.1.1 in (
        seen_of given r.0,
        (text_with told.outcome told.buffer.items, r.1.2.turns),
        subst (λ (s : Setting). Runs (IsTurn s) (seen_of given r.0) es (seen_of given last)) r.1.2.setting
            (lock_turns r.0 last es r.2),
      )

  pub law : LawOfTurns g given setting_of
  law = record { setting = setting_stays; runs = lock_turns }

  -- the text of a turn's reply is what the history gives
  pub text_of_turn : LawOfRuns g → LawOfTurns g given setting_of → (first old new : Store D C P g) (history : List Entry)
      (work : Work) (e : Entry) (told : Told) → Runs (Leads (TakesTurn given setting_of)) first history old
      → TakesTurn given setting_of old work e told new
      → text_with told.outcome told.buffer.items
      ≡ reply_text (reply (start_of given setting_of first).setting
      (state_of (start_of given setting_of first).setting (start_of given setting_of first).first history) e)
  text_of_turn runs turns first old new history work e told led step =
      runs.reply (setting_of (planner_in first)) (seen_of given first) (seen_of given old) (seen_of given new) history e
      (text_with told.outcome told.buffer.items) (turns.runs first old history led)
      (subst (λ (s : Setting). Turns s (seen_of given old) e (text_with told.outcome told.buffer.items) (seen_of given new))
      (turns.setting first old history led) step.turns)
