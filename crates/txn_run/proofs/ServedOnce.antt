-- In a run the store serves a ticket once at most, and none that it was too busy for.
use Rattle.std.proofs.Common.{◌≡◌, ℕ, inl, inr, Bool, true, false, ◌&&◌, List, [], ◌∷◌, refl, sym, ap, ◌∙◌, subst}
use Rattle.txn_kv.specs.declared.reply.commits.CommitResponse.{CommitResponse}
use Rattle.txn_kv.specs.declared.reply.Reply.{Reply}
use Rattle.txn_kv.specs.declared.reply.Reply.TheVariants as replies
use Rattle.txn_kv.specs.declared.request.commits.CommitRequest.{CommitRequest}
use Rattle.txn_kv.specs.declared.request.Request.{Request}
use Rattle.txn_kv.specs.declared.request.Request.TheVariants.{Commit}
use Rattle.txn_kv.specs.declared.ticket.Ticket.{Ticket}
use Rattle.txn_history.specs.Event.{Event, Has, same_ticket}
use Rattle.txn_history.specs.Event.Event.{Refused, Served}
use Rattle.txn_history.specs.Licence.{IsWithoutError}
use Rattle.txn_history.specs.Plan.{Plan}
use Rattle.txn_law.specs.Run.{IsPossible, IsRun}
use Rattle.txn_law.proofs.Kept.{kept}
use Rattle.txn_law.proofs.Tickets.{ticket_itself}
use Rattle.txn_commit.specs.Following.{IsRefusal, WasRefused}
use Rattle.txn_machine.specs.Script.{is_done}
use Rattle.txn_machine.specs.Steps.{done_if}
use Rattle.txn_report.specs.declared.outcome.Outcome.{Outcome}

-- What a run tells of a ticket

served_same : (t : Ticket) (r q : Request) (o p : Reply) → Served t r o ≡ Served t q p → (r ≡ q) × (o ≡ p)
served_same t r q o p e = (cc, cc)

served_alone : (plans : ℕ → Plan) (es : List Event) → IsRun plans es → (t : Ticket) (r q : Request) (o p : Reply) → Has es (Served t r o) → Has es (Served t q p) → (r ≡ q) × (o ≡ p)
served_alone plans [] run t r q o p h g = absurd h
served_alone plans (e ∷ es) run t r q o p (inl f) (inl g) = served_same t r q o p (sym f ∙ g)
served_alone plans (e ∷ es) run t r q o p (inl f) (inr b) = absurd (let may : IsPossible es (Served t r o) = subst (IsPossible es) f run.0 in may.2 q p (inl b))
served_alone plans (e ∷ es) run t r q o p (inr a) (inl g) = absurd (let may : IsPossible es (Served t q p) = subst (IsPossible es) g run.0 in may.2 r o (inl a))
served_alone plans (e ∷ es) run t r q o p (inr a) (inr b) = served_alone plans es run.2 t r q o p a b

served_unrefused : (plans : ℕ → Plan) (es : List Event) → IsRun plans es → (t : Ticket) (r q : Request) (o p : Reply) → Has es (Served t r o) → Has es (Refused t q p) → ⊥
served_unrefused plans [] run t r q o p h g = h
served_unrefused plans (e ∷ es) run t r q o p (inl f) (inl g) = let both = sym f ∙ g in cc
served_unrefused plans (e ∷ es) run t r q o p (inl f) (inr b) = let may : IsPossible es (Served t r o) = subst (IsPossible es) f run.0 in may.2 q p (inr b)
served_unrefused plans (e ∷ es) run t r q o p (inr a) (inl g) = let may : IsPossible es (Refused t q p) = subst (IsPossible es) g run.0 in may.2 r o (inl a)
served_unrefused plans (e ∷ es) run t r q o p (inr a) (inr b) = served_unrefused plans es run.2 t r q o p a b

-- What others use

pub alike : (u t : Ticket) → u ≡ t → same_ticket u t ≡ true
alike u t e = subst (λ v. same_ticket u v ≡ true) e (ticket_itself u)

pub both : (a b : Bool) → (a && b) ≡ true → (a ≡ true) × (b ≡ true)
both true true e = (refl, refl)
both true false e = absurd (cc)
both false b e = absurd (cc)

pub done_so : (b : Bool) (o : Outcome) → o ≡ done_if b → is_done o ≡ true → b ≡ true
done_so true o e done = refl
done_so false o e done = absurd (let no = sym (ap is_done e) ∙ done in cc)

-- So a Commit that was served, and whose reply says that it is done, was not refused.
pub done_unrefused : (plans : ℕ → Plan) (es : List Event) → IsRun plans es → (t : Ticket) (r q : CommitRequest) (o : CommitResponse) → Has es (Served t (Commit r) (replies.Commit o)) → IsWithoutError (replies.Commit o) → o.commit_version ≡ r.commit_version → WasRefused es t q → ⊥
done_unrefused plans es run t r q o served fine says (x, took, refusal) = elim ((kept plans es run).taken t (Commit q) x took) [
  | inl s ↦
      let same = served_alone plans es run t (Commit r) (Commit q) (replies.Commit o) x served s in
      no_refusal (same_request same.0) (subst (λ y. IsRefusal q y) (sym same.1) refusal)
  | inr s ↦ served_unrefused plans es run t (Commit r) (Commit q) (replies.Commit o) x served s
]
  where
    same_request : Commit r ≡ Commit q → r ≡ q
    same_request e = cc

    no_refusal : r ≡ q → IsRefusal q (replies.Commit o) → ⊥
    no_refusal e never = never fine.0 fine.1 (says ∙ ap (λ (c : CommitRequest). c.commit_version) e)
