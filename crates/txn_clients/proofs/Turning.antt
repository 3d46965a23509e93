-- Whether what a transaction is told is of a call that commits it, as the call's line says.
use Rattle.std.proofs.Common.{◌≡◌, inl, inr, ℕ, Bool, true, false, List, Some, None, refl, sym, ap, ◌∙◌, subst}
use Rattle.std.specs.Prelude.{Result, Ok, Err}
use Rattle.txn_kv.specs.declared.errors.Error.{Error}
use Rattle.txn_kv.specs.declared.ticket.Ticket.{Ticket}
use Rattle.txn_history.specs.Event.{Event}
use Rattle.txn_commit.specs.Ways.{Ways}
use Rattle.txn_core.specs.Status.{has_turned_back}
use Rattle.txn_core.specs.Transaction.{is_open}
use Rattle.txn_core.specs.declared.status.Status.{Status}
use Rattle.txn_core.specs.declared.status.Status.TheVariants.{Active, Committed, Dropped, ReadOnly, Rolledback, StartedCommit, StartedRollback}
use Rattle.txn_core.specs.declared.txn_answer.TxnAnswer.{TxnAnswer}
use Rattle.txn_core.specs.declared.txn_answer.TxnAnswer.TheVariants as answer
use Rattle.txn_side.specs.Account.{Status as Stage}
use Rattle.txn_side.specs.Sight.{Stand}
use Rattle.txn_side.specs.Sight.Stand.{Calling}
use Rattle.txn_clients.specs.Accounts.{is_heard, stage_by}
use Rattle.txn_clients.specs.Arising.{AnswerArises, FitsCall, TurnsRow}
use Rattle.txn_clients.specs.Closing.{HasComeTo}
use Rattle.txn_clients.specs.declared.answer.Answer.TheVariants as answers
use Rattle.txn_clients.specs.declared.row.Row.{Row}
use Rattle.txn_clients.specs.declared.row.Row.TheVariants as row
use Rattle.txn_clients.specs.declared.told.Told.{Told}
use Rattle.txn_clients.specs.declared.told.Told.TheVariants as tells

-- one whose rollback was begun has turned back
turned_stage : (s : Status) (busy doubtful : Bool) → stage_by s busy doubtful ≡ Stage.StartedRollback → has_turned_back s ≡ true
turned_stage ReadOnly busy doubtful e = absurd (cc)
turned_stage Active busy doubtful e = absurd (cc)
turned_stage Committed busy doubtful e = absurd (cc)
turned_stage StartedCommit true doubtful e = absurd (cc)
turned_stage StartedCommit false true e = absurd (cc)
turned_stage StartedCommit false false e = absurd (cc)
turned_stage Rolledback busy doubtful e = refl
turned_stage StartedRollback busy doubtful e = refl
turned_stage Dropped busy doubtful e = absurd (cc)

module _ {P : Type 0} where
  turned_told : (told : Told) (r : Row P) (c x : ℕ) (e : Error) → FitsCall told (Calling c x false) → (is_heard told ≡ true → HasComeTo {P = P} (Calling c x false) (Err e) r) → TurnsRow told r
  turned_told tells.Start (row.Begun d t m) c x e fits come = tt
  turned_told (tells.Act act) (row.Begun d t m) c x e fits come = sym fits
  turned_told (tells.Heard a) (row.Begun d t m) c x e fits come = turned_stage t.status (is_open t.work) _ (come refl)
  turned_told told row.Plain c x e fits come = tt
  turned_told told (row.Client d) c x e fits come = tt
  turned_told told (row.Asking d b call) c x e fits come = tt
  turned_told told (row.Calling d y b) c x e fits come = tt
  turned_told told (row.Past d) c x e fits come = tt
  turned_told told (row.Working d job) c x e fits come = tt

  -- where a call fails that does not commit
  pub turned_row : (told : Told) (r : Row P) (stand : Stand) (c x : ℕ) (b : Bool) (e : Error) (v : Result (TxnAnswer P) Error) → v ≡ Err e → stand ≡ Calling c x b → b ≡ false → FitsCall told stand → (is_heard told ≡ true → HasComeTo stand v r) → TurnsRow told r
  turned_row told r stand c x b e v failed calls back fits come =
      let so = calls ∙ ap (λ flag. Calling c x flag) back in
      turned_told told r c x e (subst (FitsCall told) so fits) (λ heard. subst (λ z. HasComeTo (Calling c x false) z r) failed (subst (λ z. HasComeTo z v r) so (come heard)))

module _ {P : Type 0} (w : Ways P) where
  pub turned_answer : (turns back : Type 0) (askers : Ticket → List ℕ) (line : ℕ) (r : Row P) (v : Result (TxnAnswer P) Error) (h : List Event) → ((e : Error) → v ≡ Err e → back → turns)
      → AnswerArises w turns askers line r (Some (answers.Called v)) h → AnswerArises w back askers line r (Some (answers.Called v)) h
  turned_answer turns back askers line r (Ok (answer.Committed (Some t) job)) h so x = x
  turned_answer turns back askers line r (Ok (answer.Committed None (Some job))) h so x = x
  turned_answer turns back askers line r (Ok (answer.Committed None None)) h so x = x
  turned_answer turns back askers line r (Ok v) h so x = tt
  turned_answer turns back askers line r (Err e) h so (inl refused) = inl refused
  turned_answer turns back askers line r (Err e) h so (inr (inl (says, lost, named))) = inr (inl (says, lost, λ b. named (so e refl b)))
  turned_answer turns back askers line r (Err e) h so (inr (inr settled)) = inr (inr settled)
