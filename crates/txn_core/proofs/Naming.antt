-- The timestamp that the Commits of a primary name was asked for last, as each of them was licensed so.
use Rattle.std.proofs.Common.{◌≡◌, inl, inr, ℕ, Bool, true, List, [], ◌∷◌, refl, subst}
use Rattle.txn_kv.specs.declared.outbox.Errand.TheVariants.{Send, Sleep, Ask}
use Rattle.txn_kv.specs.declared.request.commits.CommitRequest.{CommitRequest}
use Rattle.txn_kv.specs.declared.request.Request.{Request}
use Rattle.txn_kv.specs.declared.request.Request.TheVariants.{Commit}
use Rattle.txn_kv.specs.declared.ticket.Ticket.{Ticket}
use Rattle.txn_history.specs.Event.{Event}
use Rattle.txn_history.specs.Event.Event.{Sent, Began, Asked}
use Rattle.txn_history.specs.Moves.{Moves}
use Rattle.txn_history.specs.Plan.{has_key, Plan}
use Rattle.txn_history.specs.Posted.{Errand, Licensed, Posted, after, posting}
use Rattle.txn_history.specs.Turn.{Turn, IfKept-weaker}
use Rattle.txn_commit.specs.Committing.{IsReady}
use Rattle.txn_commit.specs.Sending.{MaySend}
use Rattle.txn_commit.proofs.Following.{IsNoSending}
use Rattle.txn_commit.proofs.Posting.{Hears}
use Rattle.txn_commit.proofs.Posting.Hears.{Nothing, One}
use Rattle.txn_commit.proofs.Sending.{ready_more}
use Rattle.txn_core.specs.Going.{NamesReady}

-- another event
pub named_more : (plan : Plan) (s : ℕ) (e : Event) (h : List Event) → IsNoSending e → NamesReady plan s h → NamesReady plan s (e ∷ h)
named_more plan s e h n k d w = elim w.2 [
  | inl f ↦ absurd (n w.0 (Commit w.1) f)
  | inr f ↦ ready_more plan s d e h (k d (w.0, w.1, f, w.3, w.4, w.5))
]

-- a Commit that names the primary is licensed where its timestamp was asked for last
primary_ready : (plan : Plan) (s : ℕ) (h : List Event) (q : CommitRequest) → MaySend plan s h (Commit q) → has_key q.keys plan.primary ≡ true → q.start_version ≡ s → IsReady plan s q.commit_version h
primary_ready plan s h q m k e = elim (m.2 plan.primary k) [
  | inl g ↦ subst (λ x. IsReady plan x q.commit_version h) e (record { keys = g.1.ready; ask = g.1.ask; given = g.1.time; wanted = g.1.wanted; answered = g.1.answered; at = g.1.at })
  | inr g ↦ absurd (g.0 refl)
]

-- a request is sent that may be
named_sent : (plan : Plan) (s : ℕ) (t : Ticket) (r : Request) (h : List Event) → MaySend plan s h r → NamesReady plan s h → NamesReady plan s (Sent t r ∷ h)
named_sent plan s t r h m k d w = elim w.2 [
  | inl f ↦
      let same : r ≡ Commit w.1 = cc in
      let ready = primary_ready plan s h w.1 (subst (λ x. MaySend plan s h x) same m) w.5 w.3 in
      ready_more plan s d (Sent t r) h (subst (λ x. IsReady plan s x h) w.4 ready)
  | inr f ↦ ready_more plan s d (Sent t r) h (k d (w.0, w.1, f, w.3, w.4, w.5))
]

named_after : (plan : Plan) (s line : ℕ) (beat : Bool) (h : List Event) (rs : List Errand) → Licensed (MaySend plan s) line beat h rs → NamesReady plan s h → NamesReady plan s (after line beat h rs)
named_after plan s line beat h [] l k = k
named_after plan s line beat h (Send n to r ∷ rs) l k = named_after plan s line beat (posting line beat (Send n to r) ∷ h) rs l.1 (named_sent plan s (record { line = line; beat = beat; number = n }) r h l.0 k)
named_after plan s line beat h (Sleep n ms ∷ rs) l k = named_after plan s line beat (posting line beat (Sleep n ms) ∷ h) rs l.1 (named_more plan s (Began (record { line = line; beat = beat; number = n }) ms) h (λ t q e. cc) k)
named_after plan s line beat h (Ask n ∷ rs) l k = named_after plan s line beat (posting line beat (Ask n) ∷ h) rs l.1 (named_more plan s (Asked (record { line = line; beat = beat; number = n })) h (λ t q e. cc) k)

pub named_heard : (plan : Plan) (s : ℕ) (h k : List Event) → Hears h k → NamesReady plan s h → NamesReady plan s k
named_heard plan s h k Nothing r = r
named_heard plan s h k (One e n) r = named_more plan s e h n r

-- so it is once more was sent
pub names_on : {A : Type 0} {plan : Plan} {s : ℕ} {was is : List Event → Type 0} {gives : List Event → A → Type 0} {hear : List Event → List Event} {from to : Posted} {turn : Turn A}
    → ((h : List Event) → Hears h (hear h)) → ((h : List Event) → was h → NamesReady plan s h)
    → Moves (MaySend plan s) was is gives hear from to turn
    → Moves (MaySend plan s) was (λ h. is h × NamesReady plan s h) gives hear from to turn
names_on {plan = plan} {s = s} {hear = hear} {from = from} {turn = turn} hears known m = record {
  sends = m.sends;
  pushed = m.pushed;
  line = m.line;
  beat = m.beat;
  numbered = m.numbered;
  licensed = m.licensed;
  still = IfKept-weaker turn (λ q h f. (q h f, named_after plan s from.line from.beat (hear h) m.sends (m.licensed h f) (named_heard plan s h (hear h) (hears h) (known h f)))) m.still;
  done = m.done;
}
