-- Errors that come only where a line is refused.
use Rattle.std.proofs.Common.{◌≡◌, ◌⊎◌, inl, inr, ℕ, Bool, true, false, if◌then◌else◌, List, [], ◌∷◌, length, Option, Some, None, refl, sym, ap, ◌∙◌, subst}
use Rattle.std.specs.Prelude.{Ok as Given, Err as Refused}
use Rattle.txn_causes.specs.Causes.{HasCause, PlainCause}
use Rattle.txn_causes.specs.Heard.{Heard}
use Rattle.txn_causes.specs.Kinds.{IsOfKind}
use Rattle.txn_history.specs.Event.{Has}
use Rattle.txn_history.specs.Event.Event.{Took}
use Rattle.txn_kv.specs.ErrorView.{ErrorView, view_of, view_step}
use Rattle.txn_kv.specs.ErrorView.ErrorView.{plain, undetermined}
use Rattle.txn_kv.specs.declared.errors.Error.{Error}
use Rattle.txn_kv.specs.declared.errors.Error.TheFolds.{fold-roll-Error}
use Rattle.txn_kv.specs.declared.errors.Error.TheOpen as layer
use Rattle.txn_kv.specs.declared.errors.Error.TheVariants as errors
use Rattle.txn_kv.specs.declared.errors.Internal.{Internal}
use Rattle.txn_kv.specs.declared.errors.Internal.TheVariants.{OracleLost, OracleCount, OracleEmpty, WrongReply}
use Rattle.txn_kv.specs.declared.reply.Reply.{Reply}
use Rattle.txn_kv.specs.declared.reply.Reply.TheVariants as replies
use Rattle.txn_kv.specs.declared.request.Request.{Request}
use Rattle.txn_kv.specs.declared.request.Request.TheVariants.{Tso}
use Rattle.txn_kv.specs.declared.ticket.Ticket.{Ticket}
use Rattle.txn_kv.specs.declared.timestamp.Timestamp.{Timestamp}
use Rattle.txn_lines.specs.declared.line.Line.{Line}
use Rattle.txn_machine.specs.Accounts.{AccountMeets, AllAccountsMeet, AnswersIn, Ask, account_of, ask_of}
use Rattle.txn_machine.specs.Causes.{ended_of, is_skipped}
use Rattle.txn_machine.specs.Failing.{AllCausesMeet, CauseMeets}
use Rattle.txn_machine.specs.Script.{outcome_of}
use Rattle.txn_report.specs.declared.outcome.Outcome.{Outcome}
use Rattle.txn_report.specs.declared.outcome.Outcome.TheVariants.{Err}
use Rattle.txn_side.specs.Account.{Account, refusal}
use Rattle.txn_side.specs.Doubt.{IsRefusal}
use Rattle.txn_side.specs.Trace.{IsRefusedIn, Refuses, Trace, untimed}
use Rattle.txn_tso.specs.Oracle.{granted, granted_if, has_version, is_unlike}
use Rattle.txn_run.specs.Caused.{HeardBy, IsCaused, IsExplained, IsSpentFor, IsRollbackRefused, IsUndetermined}
use Rattle.txn_run.specs.Refused.{AllRefusalsMeet, RefusalMeets}

-- none of them is caused by what came

-- why there is no timestamp, as a reply says it
abbrev SaysUntimed : Error → Type 0
SaysUntimed e = (what : Internal) × (e ≡ errors.InternalError what) × (untimed what ≡ Some what)

granted_untimed : (stamp : Option Timestamp) (given asked behind : ℕ) (e : Error) → granted_if stamp given asked behind ≡ Refused e → SaysUntimed e
granted_untimed None given asked behind e is = (OracleEmpty, cc, refl)
granted_untimed (Some last) given asked behind e is = by (has_version last) is
  where
    counted : (b : Bool) (time : Timestamp) → (if b then Refused (errors.InternalError (OracleCount asked given)) else Given time) ≡ Refused e → SaysUntimed e
    counted true time f = (OracleCount asked given, cc, refl)
    counted false time f = cc

    by : (b : Bool) → (if b then granted last given asked behind else Refused (errors.InternalError OracleEmpty)) ≡ Refused e → SaysUntimed e
    by true f = counted (is_unlike last given asked) _ f
    by false f = (OracleEmpty, cc, refl)

refuses_internal : (asked : ℕ) (o : Reply) (e : Error) → Refuses asked o e → (what : Internal) × (e ≡ errors.InternalError what)
refuses_internal asked (replies.Tso times) e h = let s = granted_untimed times.timestamp times.count asked h.0 e h.2 in (s.0, s.1)
refuses_internal asked o e h = (WrongReply, h)

-- so a line whose ask was refused by a loss, or by a reply of the request's kind
pub refused_untimed : (t : Trace) (line : ℕ) (e : Error) → ((u : Ticket) (r : Request) (o : Reply) → Has t.events (Took u r o) → IsOfKind r o) → IsRefusedIn t line e → SaysUntimed e
refused_untimed t line e like r = elim r.failed [ inl h ↦ (OracleLost, h.1, refl) | inr h ↦ by h.0 h.2 (like r.group.ticket (Tso r.request) h.0 h.1) ]
  where
    by : (o : Reply) → Refuses (length r.group.askers) o e → IsOfKind (Tso r.request) o → SaysUntimed e
    by o refuses kind =
        let h = subst (λ x. Refuses (length r.group.askers) x e) kind.1 refuses in
        granted_untimed kind.0.timestamp kind.0.count (length r.group.askers) h.0 e h.2

pub refused_internal : (t : Trace) (line : ℕ) (e : Error) → IsRefusedIn t line e → (what : Internal) × (e ≡ errors.InternalError what)
refused_internal t line e r = elim r.failed [ inl h ↦ (OracleLost, h.1) | inr h ↦ refuses_internal (length r.group.askers) h.0 e h.2 ]

pub view-InternalError : (what : Internal) → view_of (errors.InternalError what) ≡ plain (errors.InternalError what)
view-InternalError what = ap view_of (sym (errors.rolls-InternalError what)) ∙ fold-roll-Error ErrorView view_step (layer.InternalError what)

view-OperationAfterCommitError : view_of errors.OperationAfterCommitError ≡ plain errors.OperationAfterCommitError
view-OperationAfterCommitError = ap view_of (sym errors.rolls-OperationAfterCommitError) ∙ fold-roll-Error ErrorView view_step layer.OperationAfterCommitError

view-Unimplemented : view_of errors.Unimplemented ≡ plain errors.Unimplemented
view-Unimplemented = ap view_of (sym errors.rolls-Unimplemented) ∙ fold-roll-Error ErrorView view_step layer.Unimplemented

view-DuplicateKeyInsertion : view_of errors.DuplicateKeyInsertion ≡ plain errors.DuplicateKeyInsertion
view-DuplicateKeyInsertion = ap view_of (sym errors.rolls-DuplicateKeyInsertion) ∙ fold-roll-Error ErrorView view_step layer.DuplicateKeyInsertion

-- an error that is seen as itself has none of the causes where it has no plain one
never_plain : (t : Trace) (n : ℕ) (e : Error) → view_of e ≡ plain e → ((K : Heard → Type 0) (S : Type 0) → PlainCause K S e → ⊥) → ((what : Internal) → e ≡ errors.InternalError what → ⊥) → IsCaused t n e → ⊥
never_plain t n e view uncaused other c = by c.why
  where
    two : (inner : ErrorView) → plain e ≡ undetermined inner → ⊥
    two inner q = cc

    by : IsExplained t c.at n e ⊎ (IsUndetermined t c.at n e ⊎ IsRollbackRefused t c.at n e) → ⊥
    by (inl (inl h)) = uncaused (HeardBy t n) (IsSpentFor t c.at n) (subst (HasCause (HeardBy t n) (IsSpentFor t c.at n)) view h)
    by (inl (inr r)) = let f = refused_internal t n e r.0.refused in other f.0 f.1
    by (inr (inl u)) = two (view_of u.inner) (sym view ∙ u.error)
    by (inr (inr u)) = two (view_of (errors.GrpcAPI u.ticket)) (sym view ∙ u.error)

operation_after : (what : Internal) → errors.OperationAfterCommitError ≡ errors.InternalError what → ⊥
operation_after what q = cc

not_implemented : (what : Internal) → errors.Unimplemented ≡ errors.InternalError what → ⊥
not_implemented what q = cc

duplicate_key : (what : Internal) → errors.DuplicateKeyInsertion ≡ errors.InternalError what → ⊥
duplicate_key what q = cc

pub never_caused : (t : Trace) (n : ℕ) (e : Error) → IsRefusal e → IsCaused t n e → ⊥
never_caused t n errors.OperationAfterCommitError is c = never_plain t n errors.OperationAfterCommitError view-OperationAfterCommitError (λ K S h. h) operation_after c
never_caused t n errors.Unimplemented is c = never_plain t n errors.Unimplemented view-Unimplemented (λ K S h. h) not_implemented c
never_caused t n errors.DuplicateKeyInsertion is c = never_plain t n errors.DuplicateKeyInsertion view-DuplicateKeyInsertion (λ K S h. h) duplicate_key c
never_caused t n e is c = absurd is

-- so a line ends with one of them only where it is refused so

same_error : (x e : Error) → ◌≡◌ {A = Outcome} (Err x) (Err e) → x ≡ e
same_error x e q = cc

module _ (Fails : ℕ → Error → Type 0) (never : (n : ℕ) (e : Error) → IsRefusal e → Fails n e → ⊥) where
  one_exact : (accounts : ℕ → Account) (n : ℕ) (ask : Option Ask) (o : Outcome) (end : ℕ) → AccountMeets accounts n ask o end → CauseMeets Fails accounts n ask o → RefusalMeets accounts ask o
  one_exact accounts n None o end a c = λ e is same. never n e is (c e same)
  one_exact accounts n (Some ask) o end a c = λ e is same. by (refusal ask.act (accounts ask.transaction)) refl e is same
    where
      by : (r : Option Error) → refusal ask.act (accounts ask.transaction) ≡ r → (e : Error) → IsRefusal e → o ≡ Err e → refusal ask.act (accounts ask.transaction) ≡ Some e
      by None k e is same = absurd (never n e is (c k e same))
      by (Some x) k e is same =
          let h : AnswersIn n ask.act (Some x) o end = subst (λ r. AnswersIn n ask.act r o end) k (a (ap is_skipped same)) in
          k ∙ ap Some (same_error x e (sym h.0 ∙ same))

  pub all_exact : (outs : List Outcome) (ended : List ℕ) (ls : List Line) → AllAccountsMeet outs ended ls → AllCausesMeet Fails outs ended ls → AllRefusalsMeet outs ended ls
  all_exact outs ended [] a c = tt
  all_exact outs ended (line ∷ before) a c = (
    one_exact (λ x. account_of (λ n. outcome_of outs n) (λ n. ended_of ended n) before x) (length (line ∷ before)) (ask_of line) (outcome_of outs (length (line ∷ before))) (ended_of ended (length (line ∷ before))) a.0 c.0,
    all_exact outs ended before a.1 c.1,
  )
