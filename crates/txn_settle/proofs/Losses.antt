-- An error is a loss exactly where its view says so, and so a loss that is refused is the loss that came.
use Rattle.std.proofs.Common.{◌≡◌, ◌∙◌, inl, inr, Bool, true, false, ap, refl, sym}
use Rattle.std.proofs.lemmas.Bool.{false≢true}
use Rattle.std.specs.Prelude.{Result, Ok, Err}
use Rattle.txn_history.specs.Faults.{is_loss}
use Rattle.txn_kv.specs.ErrorView.{view_of, view_step, ErrorView}
use Rattle.txn_kv.specs.ErrorView.ErrorView.{plain}
use Rattle.txn_kv.specs.declared.errors.Error.{Error}
use Rattle.txn_kv.specs.declared.errors.Error.TheFolds.{fold-roll-Error, fold_out-Error}
use Rattle.txn_kv.specs.declared.errors.Error.TheOpen as layer
use Rattle.txn_kv.specs.declared.errors.Error.TheOpen.{Error-F}
use Rattle.txn_kv.specs.declared.errors.Error.TheVariants as errors
use Rattle.txn_kv.specs.declared.query.PdAnswer.{PdAnswer}
use Rattle.txn_kv.specs.declared.query.PdAnswer.TheVariants as answer
use Rattle.txn_kv.specs.declared.query.PdQuery.{PdQuery}
use Rattle.txn_kv.specs.declared.query.PdQuery.TheVariants as query
use Rattle.txn_kv.specs.declared.region.RegionWithLeader.{RegionWithLeader}
use Rattle.txn_region.specs.Clients.{IsBadAnswer, IsBadRegion, IsRefused}
use Rattle.txn_region.specs.Clients.IsBadRegion.{reversed, no_epoch, bad_start, bad_end, no_leader}
use Rattle.txn_tso.specs.Counting as tso

abbrev shows_loss : ErrorView → Bool
shows_loss (plain (errors.GrpcAPI ticket)) = true
shows_loss _ = false

-- its view says so
seen : (e : Error) → shows_loss (view_of e) ≡ is_loss e
seen errors.Unimplemented = ap (λ e. shows_loss (view_of e)) (sym errors.rolls-Unimplemented) ∙ ap shows_loss (fold-roll-Error ErrorView view_step layer.Unimplemented)
seen errors.DuplicateKeyInsertion = ap (λ e. shows_loss (view_of e)) (sym errors.rolls-DuplicateKeyInsertion) ∙ ap shows_loss (fold-roll-Error ErrorView view_step layer.DuplicateKeyInsertion)
seen (errors.ResolveLockError held) = ap (λ e. shows_loss (view_of e)) (sym (errors.rolls-ResolveLockError held)) ∙ ap shows_loss (fold-roll-Error ErrorView view_step (layer.ResolveLockError held))
seen errors.OperationAfterCommitError = ap (λ e. shows_loss (view_of e)) (sym errors.rolls-OperationAfterCommitError) ∙ ap shows_loss (fold-roll-Error ErrorView view_step layer.OperationAfterCommitError)
seen errors.OnePcFailure = ap (λ e. shows_loss (view_of e)) (sym errors.rolls-OnePcFailure) ∙ ap shows_loss (fold-roll-Error ErrorView view_step layer.OnePcFailure)
seen errors.NoPrimaryKey = ap (λ e. shows_loss (view_of e)) (sym errors.rolls-NoPrimaryKey) ∙ ap shows_loss (fold-roll-Error ErrorView view_step layer.NoPrimaryKey)
seen (errors.GrpcAPI ticket) = ap (λ e. shows_loss (view_of e)) (sym (errors.rolls-GrpcAPI ticket)) ∙ ap shows_loss (fold-roll-Error ErrorView view_step (layer.GrpcAPI ticket))
seen (errors.RegionError held) = ap (λ e. shows_loss (view_of e)) (sym (errors.rolls-RegionError held)) ∙ ap shows_loss (fold-roll-Error ErrorView view_step (layer.RegionError held))
seen (errors.KeyError held) = ap (λ e. shows_loss (view_of e)) (sym (errors.rolls-KeyError held)) ∙ ap shows_loss (fold-roll-Error ErrorView view_step (layer.KeyError held))
seen (errors.RegionForKeyNotFound at) = ap (λ e. shows_loss (view_of e)) (sym (errors.rolls-RegionForKeyNotFound at)) ∙ ap shows_loss (fold-roll-Error ErrorView view_step (layer.RegionForKeyNotFound at))
seen (errors.RegionNotFoundInResponse id) = ap (λ e. shows_loss (view_of e)) (sym (errors.rolls-RegionNotFoundInResponse id)) ∙ ap shows_loss (fold-roll-Error ErrorView view_step (layer.RegionNotFoundInResponse id))
seen (errors.LeaderNotFound id) = ap (λ e. shows_loss (view_of e)) (sym (errors.rolls-LeaderNotFound id)) ∙ ap shows_loss (fold-roll-Error ErrorView view_step (layer.LeaderNotFound id))
seen (errors.KvError message) = ap (λ e. shows_loss (view_of e)) (sym (errors.rolls-KvError message)) ∙ ap shows_loss (fold-roll-Error ErrorView view_step (layer.KvError message))
seen (errors.InternalError what) = ap (λ e. shows_loss (view_of e)) (sym (errors.rolls-InternalError what)) ∙ ap shows_loss (fold-roll-Error ErrorView view_step (layer.InternalError what))
seen (errors.StringError message) = ap (λ e. shows_loss (view_of e)) (sym (errors.rolls-StringError message)) ∙ ap shows_loss (fold-roll-Error ErrorView view_step (layer.StringError message))
seen errors.OutOfMemory = ap (λ e. shows_loss (view_of e)) (sym errors.rolls-OutOfMemory) ∙ ap shows_loss (fold-roll-Error ErrorView view_step layer.OutOfMemory)
seen (errors.UndeterminedError' p inner) = rw (fold_out-Error ErrorView view_step (errors.UndeterminedError' p inner), errors.outs-UndeterminedError' p inner) refl
seen (errors.ExtractedErrors' shape held) = rw (fold_out-Error ErrorView view_step (errors.ExtractedErrors' shape held), errors.outs-ExtractedErrors' shape held) refl
seen (errors.MultipleKeyErrors' shape held) = rw (fold_out-Error ErrorView view_step (errors.MultipleKeyErrors' shape held), errors.outs-MultipleKeyErrors' shape held) refl
seen (errors.PessimisticLockError' p inner keys) = rw (fold_out-Error ErrorView view_step (errors.PessimisticLockError' p inner keys), errors.outs-PessimisticLockError' p inner keys) refl

-- the same, of what came of a query
as_answer : (e : Error) → is_loss e ≡ tso.is_loss (Err e)
as_answer (errors.GrpcAPI ticket) = refl
as_answer _ = refl

bad_region : (r : RegionWithLeader) (why : Error) → IsBadRegion r why → is_loss why ≡ false
bad_region r _ (reversed e) = refl
bad_region r _ (no_epoch e) = refl
bad_region r _ (bad_start what b) = refl
bad_region r _ (bad_end what b) = refl
bad_region r _ (no_leader e) = refl

-- an answer that is refused is no loss
bad_answer : (q : PdQuery) (a : PdAnswer) (why : Error) → IsBadAnswer q a why → is_loss why ≡ false
bad_answer (query.Region key) (answer.Region r) why (inl b) = bad_region r why b
bad_answer (query.Region key) (answer.Region r) why (inr b) = ap is_loss b.1
bad_answer (query.RegionId id) (answer.Region r) why (inl b) = bad_region r why b
bad_answer (query.RegionId id) (answer.Region r) why (inr b) = ap is_loss b.1
bad_answer (query.Store id) (answer.Store s) why b = absurd b
bad_answer query.Stores (answer.Stores all) why b = absurd b
bad_answer query.Time (answer.Time t) why b = absurd b
bad_answer (query.Safepoint time) (answer.Safepoint t) why b = absurd b
bad_answer _ _ why b = ap is_loss b

pub refused_lost : (q : PdQuery) (answer : Result PdAnswer Error) (why : Error) → IsRefused q answer why → is_loss why ≡ true → tso.is_loss answer ≡ true
refused_lost q (Ok a) why r f = absurd (false≢true (sym (bad_answer q a why r) ∙ f))
refused_lost q (Err e) why r f = sym (as_answer e) ∙ sym (seen e) ∙ ap shows_loss (sym r) ∙ seen why ∙ f
