-- Steps in which calls begin.
use Rattle.std.proofs.Common.{◌≡◌, ◌≢◌, ◌⊎◌, inl, inr, ℕ, zero, suc, ◌-◌, ◌<◌, ◌≤◌, Bool, true, false, List, [], get_or, set, Option, Some, sym, ap, ◌∙◌, subst, length-set, arith}
use Rattle.txn_history.specs.Meaning.{IsLawful, IsUnbegun}
use Rattle.txn_history.specs.Phase.{Awaited}
use Rattle.txn_commit.specs.Ways.{Ways}
use Rattle.txn_client.specs.Calls.{called, stage_phase}
use Rattle.txn_client.specs.declared.client_call.ClientCall.{ClientCall}
use Rattle.txn_client.specs.declared.client_call.Stage.TheVariants as stages
use Rattle.txn_side.specs.Sight.{client_at, stand_at}
use Rattle.txn_side.specs.Sight.Stand.{Asking, Calling, HasBegun, Idle}
use Rattle.txn_lines.specs.declared.act.Act.{Act}
use Rattle.txn_side.specs.Trace.{Trace}
use Rattle.txn_side.specs.declared.turn.Ending.{Ending}
use Rattle.txn_side.specs.declared.turn.Posting.{Posting}
use Rattle.txn_clients.specs.Clients.{crashed_of, nexts_of, row_at, rows_of, stands_of}
use Rattle.txn_clients.specs.Accounts.{account_at, account_in}
use Rattle.txn_clients.specs.Failing.{CalledIn, KnowsAsk, MayKnow, outbox_of, posting_in}
use Rattle.txn_clients.specs.Matching.{IsLine}
use Rattle.txn_clients.specs.Rows.{Pd, stand_of, with_waits}
use Rattle.txn_clients.specs.Waiting.{AreRunningBut, IsPrepared, IsQuiet, IsReady, IsSound, RowRuns, Steps, asks_of, book_at, WantedIn}
use Rattle.txn_clients.specs.declared.clients.Clients.{Clients}
use Rattle.txn_clients.specs.declared.row.Row.{Row}
use Rattle.txn_clients.specs.declared.row.Row.TheVariants as row
use Rattle.txn_clients.specs.declared.told.Told.{Told}
use Rattle.txn_clients.specs.declared.told.Told.TheVariants as tells
use Rattle.txn_clients.proofs.Opening.{asking_sound, calling_fewer, calling_sound, fresh_silent, idle_fewer}
use Rattle.txn_clients.proofs.Settling.{books_same, prepared_act, row_within}
use Rattle.txn_clients.proofs.Sounding.{running_but}
use Rattle.txn_clients.proofs.Stands.{or_other, or_same, same_line, stand_other, stand_same}
use Rattle.txn_clients.proofs.Stepping.{steps_from}
use Rattle.txn_clients.proofs.Tables.{called_stands, stand_read, stands_set}
use Rattle.txn_clients.proofs.Telling.{begun_line, hears_begun}

module _ {P : Type 0} where
  act_known : (trace : Option Trace) (act : Act) (line : ℕ) (r : Row P) → KnowsAsk trace line act (account_in r) → MayKnow trace (outbox_of line) (tells.Act act) (with_waits line r)
  act_known trace act line row.Plain h = tt
  act_known trace act line (row.Client c) h = tt
  act_known trace act line (row.Asking c b call) h = tt
  act_known trace act line (row.Begun c t m) h = h
  act_known trace act line (row.Calling c x b) h = tt
  act_known trace act line (row.Past c) h = tt
  act_known trace act line (row.Working c job) h = tt

  account_read : (rows : List (Row P)) (x : ℕ) → 1 ≤ x → account_at rows x ≡ account_in (row_at rows (x - 1))
  account_read rows zero one = absurd (omega (arith, one))
  account_read rows (suc i) one = let e : suc i - 1 ≡ i = omega arith in ap (λ j. account_in (row_at rows j)) (sym e)

module _ {P : Type 0} (w : Ways P) (p : IsLawful w.plan) where
  -- what is left to show of a step of a line of this client that is told something
  abbrev pub StepsAt : Option Trace → Clients P → Clients P → ℕ → ℕ → ℕ → Told → (ℕ → Awaited → Type 0) → List Posting → List Ending → Type 0
  StepsAt trace m t line client at told Heard ps es = client_at (stand_at (stands_of (rows_of m)) line) ≡ Some client → MayKnow (posting_in [] trace) (outbox_of line) told (row_at (rows_of m) at) → IsSound w (posting_in [] trace) [] m → ((d : ℕ) → d ≢ client → IsQuiet (book_at m d)) → AreRunningBut at (rows_of m) → IsPrepared told (row_at (rows_of m) at) → Steps w trace Heard ps es m t

  -- a call for a timestamp begins
  pub ask_steps : (trace : Option Trace) (s m t : Clients P) (line c : ℕ) (b : Bool) (call : ClientCall Pd P) (Heard : ℕ → Awaited → Type 0) (ps : List Posting) (es : List Ending) → IsLine (stands_of (rows_of s)) line → stand_at (stands_of (rows_of s)) line ≡ Idle
      → get_or (crashed_of s) c true ≡ false → call.stage ≡ stages.Fresh → IsUnbegun called call
      → rows_of m ≡ set (rows_of s) (line - 1) (row.Asking c b call) → nexts_of m ≡ nexts_of s → asks_of m ≡ asks_of s → m.clients ≡ s.clients → IsReady w s → CalledIn (posting_in [] trace) line line → WantedIn (posting_in [] trace) line call → IsSound w (posting_in [] trace) [] s → StepsAt trace m t line c (line - 1) tells.Start Heard ps es → Steps w trace (λ n a. ⊥) ps es s t
  ask_steps trace s m t line c b call Heard ps es is idle there fresh unbegun rows nexts asks clients ready is_called wants sound step =
      steps_from w trace s m t Heard ps es (idle_fewer w p s m line (row.Asking c b call) is (fresh_silent w p c b call fresh) rows)
      (step (ap (λ rs. client_at (stand_at (stands_of rs) line)) rows ∙ ap (λ ss. client_at (stand_at ss line)) (stands_set (rows_of s) (line - 1) (row.Asking c b call)) ∙ ap client_at (stand_same (stands_of (rows_of s)) line (Asking c b) is))
      tt
      (asking_sound w p (posting_in [] trace) s m line c b call [] is idle ready.rows.matched there fresh unbegun rows nexts asks clients is_called wants sound)
      (λ d apart. subst IsQuiet (sym (books_same s m clients d)) (ready.quiet d))
      (subst (AreRunningBut (line - 1)) (sym rows) (running_but (rows_of s) (line - 1) (row.Asking c b call) (λ i apart. ready.running i)))
      (subst (IsPrepared tells.Start) (sym (ap (λ rs. row_at rs (line - 1)) rows ∙ or_same (rows_of s) (line - 1) (row.Asking c b call) row.Plain (row_within (rows_of s) line is))) (ap stage_phase fresh)))

  -- a call of a transaction begins
  pub call_steps : (trace : Option Trace) (s m t : Clients P) (line x c : ℕ) (b : Bool) (act : Act) (Heard : ℕ → Awaited → Type 0) (ps : List Posting) (es : List Ending) → IsLine (stands_of (rows_of s)) line → stand_at (stands_of (rows_of s)) line ≡ Idle → stand_at (stands_of (rows_of s)) x ≡ HasBegun c 0
      → rows_of m ≡ set (set (rows_of s) (x - 1) (with_waits line (row_at (rows_of s) (x - 1)))) (line - 1) (row.Calling c x b) → nexts_of m ≡ nexts_of s → asks_of m ≡ asks_of s → m.clients ≡ s.clients → IsReady w s → CalledIn (posting_in [] trace) line x → KnowsAsk (posting_in [] trace) line act (account_at (rows_of s) x) → IsSound w (posting_in [] trace) [] s → StepsAt trace m t line c (x - 1) (tells.Act act) Heard ps es → Steps w trace (λ n a. ⊥) ps es s t
  call_steps trace s m t line x c b act Heard ps es is idle free rows nexts asks clients ready is_called refused sound step =
      steps_from w trace s m t Heard ps es (calling_fewer w p s m line x c b is free ready.rows rows)
      (step own may
      (calling_sound w p (posting_in [] trace) s m line x c b [] is idle free ready.rows rows nexts asks clients is_called sound)
      (λ d apart. subst IsQuiet (sym (books_same s m clients d)) (ready.quiet d))
      but
      (prepared_act act c line (row_at (rows_of m) (x - 1)) begun))
    where
      at : IsLine (stands_of (rows_of s)) x
      at = begun_line (stands_of (rows_of s)) x c 0 free

      mid : List (Row P)
      mid = set (rows_of s) (x - 1) (with_waits line (row_at (rows_of s) (x - 1)))

      stands : stands_of (rows_of m) ≡ set (set (stands_of (rows_of s)) (x - 1) (HasBegun c line)) (line - 1) (Calling c x b)
      stands = ap stands_of rows ∙ called_stands (rows_of s) line x c 0 (row.Calling c x b) at free

      is_mid : IsLine (set (stands_of (rows_of s)) (x - 1) (HasBegun c line)) line
      is_mid = record { first = is.first; last = subst (λ n. line ≤ n) (sym (length-set (stands_of (rows_of s)) (x - 1) (HasBegun c line))) is.last }

      own : client_at (stand_at (stands_of (rows_of m)) line) ≡ Some c
      own = ap (λ zs. client_at (stand_at zs line)) stands ∙ ap client_at (stand_same (set (stands_of (rows_of s)) (x - 1) (HasBegun c line)) line (Calling c x b) is_mid)

      far : x ≢ line
      far e = two (sym idle ∙ ap (stand_at (stands_of (rows_of s))) (sym e) ∙ free)
        where
          two : Idle ≡ HasBegun c 0 → ⊥
          two q = cc

      begun : stand_of (row_at (rows_of m) (x - 1)) ≡ HasBegun c line
      begun = sym (stand_read (rows_of m) (x - 1)) ∙ ap (stand_at (stands_of (rows_of m))) (hears_begun (stands_of (rows_of s)) x c 0 free)
          ∙ ap (λ zs. stand_at zs x) stands ∙ stand_other (set (stands_of (rows_of s)) (x - 1) (HasBegun c line)) line x (Calling c x b) is.first far ∙ stand_same (stands_of (rows_of s)) x (HasBegun c line) at

      -- with what it is refused is told by how far its transaction has come
      may : MayKnow (posting_in [] trace) (outbox_of line) (tells.Act act) (row_at (rows_of m) (x - 1))
      may = subst (MayKnow (posting_in [] trace) (outbox_of line) (tells.Act act)) (sym mine) (act_known (posting_in [] trace) act line (row_at (rows_of s) (x - 1)) (subst (λ a. KnowsAsk (posting_in [] trace) line act a) (account_read (rows_of s) x at.first) refused))
        where
          mine : row_at (rows_of m) (x - 1) ≡ with_waits line (row_at (rows_of s) (x - 1))
          mine = ap (λ rs. row_at rs (x - 1)) rows ∙ or_other mid (line - 1) (x - 1) (row.Calling c x b) row.Plain (λ e. far (let one = is.first in let two = at.first in omega (arith, one, two, e))) ∙ or_same (rows_of s) (x - 1) (with_waits line (row_at (rows_of s) (x - 1))) row.Plain (row_within (rows_of s) x at)

      but : AreRunningBut (x - 1) (rows_of m)
      but i apart = subst (λ rs. RowRuns (row_at rs i)) (sym rows) (by (same_line (line - 1) i))
        where
          by : (i ≡ line - 1) ⊎ (i ≢ line - 1) → RowRuns (row_at (set mid (line - 1) (row.Calling c x b)) i)
          by (inl same) = subst RowRuns (sym (ap (row_at (set mid (line - 1) (row.Calling c x b))) same ∙ or_same mid (line - 1) (row.Calling c x b) row.Plain (subst (λ n. line - 1 < n) (sym (length-set (rows_of s) (x - 1) (with_waits line (row_at (rows_of s) (x - 1))))) (row_within (rows_of s) line is)))) tt
          by (inr off) = subst RowRuns (sym (or_other mid (line - 1) i (row.Calling c x b) row.Plain off ∙ or_other (rows_of s) (x - 1) i (with_waits line (row_at (rows_of s) (x - 1))) row.Plain apart)) (ready.running i)
