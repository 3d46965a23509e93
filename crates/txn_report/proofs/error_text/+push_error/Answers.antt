-- Each variant: its layer is told apart by the match, and `search` does not unfold the fold over it.
use Rattle.std.proofs.Common.{arith, ap, sym, ℕ, List, ◌∙◌, ◌++◌, codes, map}
use Rattle.txn_kv.specs.declared.errors.Error.TheFolds.{fold-roll-Error}
use Rattle.txn_kv.specs.declared.errors.Error.TheOpen as layer
use Rattle.txn_kv.specs.declared.errors.Error.TheVariants as errors
use Rattle.txn_report.specs.ErrorText.{error_step, joined, text_of_error, text_of_key_error, text_of_lock_infos, text_of_region_err}
use Rattle.txn_report.proofs.ErrorTexts.{errors_more, pushed_as}
use Rattle.txn_report.proofs.error_text.+push_error.Goals as goal

pub push_error-returns-in-ResolveLockError : goal.push_error-returns-in-ResolveLockError
push_error-returns-in-ResolveLockError t c =
    pushed_as (layer.ResolveLockError c.in-ResolveLockError.locks) c.push_unresolved.result c.push_unresolved.new.out.items c.args.out.now.items c.args.error.now (c.in-ResolveLockError.is ∙ sym (errors.rolls-ResolveLockError c.in-ResolveLockError.locks))
    (fold-roll-Error (List ℕ) error_step (layer.ResolveLockError c.in-ResolveLockError.locks) ∙ ap (λ z. codes "ResolveLockError " ++ text_of_lock_infos z) (sym c.as_slice.ensures.value)) c.push_unresolved.ensures

pub push_error-returns-in-OperationAfterCommitError : goal.push_error-returns-in-OperationAfterCommitError
push_error-returns-in-OperationAfterCommitError t c =
    pushed_as layer.OperationAfterCommitError c.push_word-in-OperationAfterCommitError.result c.push_word-in-OperationAfterCommitError.new.out.items c.args.out.now.items c.args.error.now (c.in-OperationAfterCommitError.is ∙ sym errors.rolls-OperationAfterCommitError)
    (fold-roll-Error (List ℕ) error_step layer.OperationAfterCommitError) c.push_word-in-OperationAfterCommitError.ensures

pub push_error-returns-in-OnePcFailure : goal.push_error-returns-in-OnePcFailure
push_error-returns-in-OnePcFailure t c =
    pushed_as layer.OnePcFailure c.push_word-in-OnePcFailure.result c.push_word-in-OnePcFailure.new.out.items c.args.out.now.items c.args.error.now (c.in-OnePcFailure.is ∙ sym errors.rolls-OnePcFailure)
    (fold-roll-Error (List ℕ) error_step layer.OnePcFailure) c.push_word-in-OnePcFailure.ensures

pub push_error-returns-in-NoPrimaryKey : goal.push_error-returns-in-NoPrimaryKey
push_error-returns-in-NoPrimaryKey t c =
    pushed_as layer.NoPrimaryKey c.push_word-in-NoPrimaryKey.result c.push_word-in-NoPrimaryKey.new.out.items c.args.out.now.items c.args.error.now (c.in-NoPrimaryKey.is ∙ sym errors.rolls-NoPrimaryKey)
    (fold-roll-Error (List ℕ) error_step layer.NoPrimaryKey) c.push_word-in-NoPrimaryKey.ensures

pub push_error-returns-in-GrpcAPI : goal.push_error-returns-in-GrpcAPI
push_error-returns-in-GrpcAPI t c =
    pushed_as (layer.GrpcAPI c.in-GrpcAPI.ticket) c.push_lost.result c.push_lost.new.out.items c.args.out.now.items c.args.error.now (c.in-GrpcAPI.is ∙ sym (errors.rolls-GrpcAPI c.in-GrpcAPI.ticket))
    (fold-roll-Error (List ℕ) error_step (layer.GrpcAPI c.in-GrpcAPI.ticket)) c.push_lost.ensures

pub push_error-returns-in-RegionError : goal.push_error-returns-in-RegionError
push_error-returns-in-RegionError t c =
    pushed_as (layer.RegionError c.in-RegionError.error) c.push_words.result c.push_words.new.out.items c.args.out.now.items c.args.error.now (c.in-RegionError.is ∙ sym (errors.rolls-RegionError c.in-RegionError.error))
    (fold-roll-Error (List ℕ) error_step (layer.RegionError c.in-RegionError.error) ∙ ap (λ z. codes "RegionError " ++ z) (sym (c.region_error_name.ensures ∙ ap text_of_region_err c.deref.ensures))) c.push_words.ensures

pub push_error-returns-in-UndeterminedError : goal.push_error-returns-in-UndeterminedError
push_error-returns-in-UndeterminedError t c =
    pushed_as (layer.UndeterminedError c.in-UndeterminedError.inner) c.push_inner.result c.push_inner.new.out.items c.args.out.now.items c.args.error.now (c.in-UndeterminedError.is ∙ sym (errors.rolls-UndeterminedError c.in-UndeterminedError.inner))
    (fold-roll-Error (List ℕ) error_step (layer.UndeterminedError c.in-UndeterminedError.inner) ∙ ap (λ z. codes "UndeterminedError [" ++ text_of_error z ++ codes "]") (sym c.deref-in-UndeterminedError.ensures)) c.push_inner.ensures

pub push_error-returns-in-KeyError : goal.push_error-returns-in-KeyError
push_error-returns-in-KeyError t c =
    pushed_as (layer.KeyError c.in-KeyError.error) c.push_key_error.result c.push_key_error.new.out.items c.args.out.now.items c.args.error.now (c.in-KeyError.is ∙ sym (errors.rolls-KeyError c.in-KeyError.error))
    (fold-roll-Error (List ℕ) error_step (layer.KeyError c.in-KeyError.error) ∙ ap (λ z. codes "KeyError " ++ text_of_key_error z) (sym c.deref-in-KeyError.ensures)) c.push_key_error.ensures

pub push_error-returns-in-ExtractedErrors : goal.push_error-returns-in-ExtractedErrors
push_error-returns-in-ExtractedErrors t c =
    pushed_as (layer.ExtractedErrors c.in-ExtractedErrors.errors) c.push_errors.result c.push_errors.new.out.items c.args.out.now.items c.args.error.now (c.in-ExtractedErrors.is ∙ sym (errors.rolls-ExtractedErrors c.in-ExtractedErrors.errors))
    (fold-roll-Error (List ℕ) error_step (layer.ExtractedErrors c.in-ExtractedErrors.errors) ∙ ap (λ z. codes "ExtractedErrors [" ++ joined (map text_of_error z) ++ codes "]") (sym c.deref-in-ExtractedErrors.ensures.value)) c.push_errors.ensures

pub push_error-returns-in-MultipleKeyErrors : goal.push_error-returns-in-MultipleKeyErrors
push_error-returns-in-MultipleKeyErrors t c =
    pushed_as (layer.MultipleKeyErrors c.in-MultipleKeyErrors.errors) c.push_errors-in-MultipleKeyErrors.result c.push_errors-in-MultipleKeyErrors.new.out.items c.args.out.now.items c.args.error.now (c.in-MultipleKeyErrors.is ∙ sym (errors.rolls-MultipleKeyErrors c.in-MultipleKeyErrors.errors))
    (fold-roll-Error (List ℕ) error_step (layer.MultipleKeyErrors c.in-MultipleKeyErrors.errors) ∙ ap (λ z. codes "MultipleKeyErrors [" ++ joined (map text_of_error z) ++ codes "]") (sym c.deref-in-MultipleKeyErrors.ensures.value)) c.push_errors-in-MultipleKeyErrors.ensures

pub push_error-returns-in-RegionForKeyNotFound : goal.push_error-returns-in-RegionForKeyNotFound
push_error-returns-in-RegionForKeyNotFound t c =
    pushed_as (layer.RegionForKeyNotFound c.in-RegionForKeyNotFound.key) c.push_unknown_key.result c.push_unknown_key.new.out.items c.args.out.now.items c.args.error.now (c.in-RegionForKeyNotFound.is ∙ sym (errors.rolls-RegionForKeyNotFound c.in-RegionForKeyNotFound.key))
    (fold-roll-Error (List ℕ) error_step (layer.RegionForKeyNotFound c.in-RegionForKeyNotFound.key)) c.push_unknown_key.ensures

pub push_error-returns-in-RegionNotFoundInResponse : goal.push_error-returns-in-RegionNotFoundInResponse
push_error-returns-in-RegionNotFoundInResponse t c =
    pushed_as (layer.RegionNotFoundInResponse c.in-RegionNotFoundInResponse.region_id) c.push_numbered.result c.push_numbered.new.out.items c.args.out.now.items c.args.error.now (c.in-RegionNotFoundInResponse.is ∙ sym (errors.rolls-RegionNotFoundInResponse c.in-RegionNotFoundInResponse.region_id))
    (fold-roll-Error (List ℕ) error_step (layer.RegionNotFoundInResponse c.in-RegionNotFoundInResponse.region_id)) c.push_numbered.ensures

pub push_error-returns-in-LeaderNotFound : goal.push_error-returns-in-LeaderNotFound
push_error-returns-in-LeaderNotFound t c =
    pushed_as (layer.LeaderNotFound c.in-LeaderNotFound.region_id) c.push_numbered-in-LeaderNotFound.result c.push_numbered-in-LeaderNotFound.new.out.items c.args.out.now.items c.args.error.now (c.in-LeaderNotFound.is ∙ sym (errors.rolls-LeaderNotFound c.in-LeaderNotFound.region_id))
    (fold-roll-Error (List ℕ) error_step (layer.LeaderNotFound c.in-LeaderNotFound.region_id)) c.push_numbered-in-LeaderNotFound.ensures

pub push_error-returns-in-KvError : goal.push_error-returns-in-KvError
push_error-returns-in-KvError t c =
    pushed_as (layer.KvError c.in-KvError.message) c.push_words-in-KvError.result c.push_words-in-KvError.new.out.items c.args.out.now.items c.args.error.now (c.in-KvError.is ∙ sym (errors.rolls-KvError c.in-KvError.message))
    (fold-roll-Error (List ℕ) error_step (layer.KvError c.in-KvError.message) ∙ ap (λ z. codes "KvError " ++ z) (sym c.as_bytes.ensures.value)) c.push_words-in-KvError.ensures

pub push_error-returns-in-InternalError : goal.push_error-returns-in-InternalError
push_error-returns-in-InternalError t c =
    pushed_as (layer.InternalError c.in-InternalError.what) c.push_words-in-InternalError.result c.push_words-in-InternalError.new.out.items c.args.out.now.items c.args.error.now (c.in-InternalError.is ∙ sym (errors.rolls-InternalError c.in-InternalError.what))
    (fold-roll-Error (List ℕ) error_step (layer.InternalError c.in-InternalError.what) ∙ ap (λ z. codes "InternalError " ++ z) (sym c.internal_name.ensures)) c.push_words-in-InternalError.ensures

pub push_error-returns-in-StringError : goal.push_error-returns-in-StringError
push_error-returns-in-StringError t c =
    pushed_as (layer.StringError c.in-StringError.text) c.push_words-in-StringError.result c.push_words-in-StringError.new.out.items c.args.out.now.items c.args.error.now (c.in-StringError.is ∙ sym (errors.rolls-StringError c.in-StringError.text))
    (fold-roll-Error (List ℕ) error_step (layer.StringError c.in-StringError.text) ∙ ap (λ z. codes "StringError " ++ z) (sym c.as_bytes-in-StringError.ensures.value)) c.push_words-in-StringError.ensures

pub push_error-returns-in-PessimisticLockError : goal.push_error-returns-in-PessimisticLockError
push_error-returns-in-PessimisticLockError t c =
    pushed_as (layer.PessimisticLockError c.in-PessimisticLockError.inner c.in-PessimisticLockError.success_keys) c.push_inner-in-PessimisticLockError.result c.push_inner-in-PessimisticLockError.new.out.items c.args.out.now.items c.args.error.now (c.in-PessimisticLockError.is ∙ sym (errors.rolls-PessimisticLockError c.in-PessimisticLockError.inner c.in-PessimisticLockError.success_keys))
    (fold-roll-Error (List ℕ) error_step (layer.PessimisticLockError c.in-PessimisticLockError.inner c.in-PessimisticLockError.success_keys) ∙ ap (λ z. codes "PessimisticLockError [" ++ text_of_error z ++ codes "]") (sym c.deref-in-PessimisticLockError.ensures)) c.push_inner-in-PessimisticLockError.ensures

pub push_error-returns-in-OutOfMemory : goal.push_error-returns-in-OutOfMemory
push_error-returns-in-OutOfMemory t c =
    pushed_as layer.OutOfMemory c.push_word-in-OutOfMemory.result c.push_word-in-OutOfMemory.new.out.items c.args.out.now.items c.args.error.now (c.in-OutOfMemory.is ∙ sym errors.rolls-OutOfMemory)
    (fold-roll-Error (List ℕ) error_step layer.OutOfMemory) c.push_word-in-OutOfMemory.ensures

pub push_errors-loop-i-preserved : goal.push_errors-loop-i-preserved
push_errors-loop-i-preserved t c =
    errors_more c.args.errors.now c.loop-i.i c.index-errors-i.result c.args.out.now.items c.args.name.now c.loop-i.out.items c.push_separator.new.out.items c.push_error.new.out.items
    (omega arith) c.index-errors-i.is c.loop-i.invariant c.in_ok-push_separator.ensures c.in_ok-push_error.ensures
