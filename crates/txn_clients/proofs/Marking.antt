-- Which Commit of its primary a transaction marks as lost, as it hears of something.
use Rattle.std.proofs.Common.{◌≡◌, ◌≢◌, ◌⊎◌, inl, inr, ℕ, Bool, true, false, if◌then◌else◌, List, [], ◌∷◌, ◌++◌, ◌≤◌, length, Option, Some, None, is_some, refl, sym, ap, ◌∙◌, subst, append_assoc, arith}
use Rattle.std.specs.Prelude.{Result}
use Rattle.txn_kv.specs.Timestamp.{version_of}
use Rattle.txn_kv.specs.declared.errors.Error.{Error}
use Rattle.txn_kv.specs.declared.outbox.Errand.{Errand}
use Rattle.txn_kv.specs.declared.reply.Reply.{Reply}
use Rattle.txn_kv.specs.declared.request.commits.CommitRequest.{CommitRequest}
use Rattle.txn_kv.specs.declared.request.Request.{Request}
use Rattle.txn_kv.specs.declared.request.Request.TheVariants.{Commit}
use Rattle.txn_kv.specs.declared.ticket.Ticket.{Ticket}
use Rattle.txn_history.specs.Among.{IsAmong}
use Rattle.txn_history.specs.Event.{Event, Has}
use Rattle.txn_history.specs.Event.Event.{Answered, Asked, Began, Lost, Sent, Slept, Took}
use Rattle.txn_history.specs.Plan.{Key, Plan, has_key}
use Rattle.txn_history.specs.Posted.{Posted, after, posting, ticket_of}
use Rattle.txn_history.specs.Turn.{IfKept, IfKept-out, Turn}
use Rattle.txn_history.specs.Turn.Turn.{Stopped, Waits}
use Rattle.txn_history.specs.Arrivals.{told_by}
use Rattle.txn_kv.specs.declared.arrival.Arrival.{Arrival}
use Rattle.txn_kv.specs.declared.arrival.Arrival.TheVariants as arrivals
use Rattle.txn_commit.specs.Ways.{Ways}
use Rattle.txn_commit.specs.Following.{Commits, IsFollowed, KnowsCommits, PrimarySent, heard, is_done, is_out, or_ticket, without}
use Rattle.txn_commit.specs.Parts.{parts_of}
use Rattle.txn_commit.specs.Sending.{plan_of}
use Rattle.txn_commit.specs.declared.commit_parts.CommitParts.{CommitParts}
use Rattle.txn_clients.proofs.Kept.{out_among}
use Rattle.txn_core.specs.Going.{TransactionFits}
use Rattle.txn_core.specs.Status.{allows_data}
use Rattle.txn_core.specs.Transaction.{GivesUp, Standing, is_open}
use Rattle.txn_core.specs.declared.transaction.Work.{Work}
use Rattle.txn_core.specs.declared.transaction.Work.TheVariants.{Idle, Open, GaveUp}
use Rattle.txn_core.specs.declared.txn_answer.TxnAnswer.{TxnAnswer}
use Rattle.txn_side.specs.Arising.{with_postings}
use Rattle.txn_side.specs.Trace.{IsSentIn, Trace}
use Rattle.txn_side.specs.declared.turn.Posting.{Posting}
use Rattle.txn_side.specs.declared.turn.Posting.TheVariants.{Send, Sleep}
use Rattle.txn_trace.specs.Seeing.{seen}
use Rattle.txn_trace.proofs.Seen.{had_seen, seen_had}
use Rattle.txn_clients.specs.Accounts.{IsAlone}
use Rattle.txn_clients.specs.Arising.{IsMarked}
use Rattle.txn_clients.specs.Failing.{CameIn, LongerIn, LostIn, MarkedIn, ShownIn}
use Rattle.txn_clients.specs.First.{Front, IsFirstLostOfPrimary, first_front}
use Rattle.txn_clients.specs.Resting.{marked_longer}

-- What is marked where something was heard: what was before, or what was out and is lost now.
abbrev pub Marks : Arrival → Posted → Commits → Ticket → Type 0
Marks a o c u = (c.lost ≡ Some u) ⊎ (((n : ℕ) × (a ≡ arrivals.Lost n) × (ticket_of o n ≡ u) × IsAmong c.out u) × (c.lost ≡ None))

some_same : {X : Type 0} (x y : X) → Some x ≡ Some y → x ≡ y
some_same x y e = cc

answered_marks : (b : Bool) (c : Commits) (t u : Ticket) → (if b then c else record c { out = without t c.out }).lost ≡ Some u → c.lost ≡ Some u
answered_marks true c t u e = e
answered_marks false c t u e = e

first_marks : (n : ℕ) (o : Posted) (c : Commits) (u : Ticket) → IsAmong c.out (ticket_of o n) → (lost : Option Ticket) → c.lost ≡ lost → or_ticket lost (ticket_of o n) ≡ Some u → Marks (arrivals.Lost n) o c u
first_marks n o c u out None none e = let same = some_same (ticket_of o n) u e in inr ((n, refl, same, subst (IsAmong c.out) same out), none)
first_marks n o c u out (Some v) some e = inl (some ∙ e)

lost_marks : (n : ℕ) (o : Posted) (c : Commits) (u : Ticket) (b : Bool) → is_out (ticket_of o n) c ≡ b → (if b then record c { out = without (ticket_of o n) c.out; lost = or_ticket c.lost (ticket_of o n) } else c).lost ≡ Some u → Marks (arrivals.Lost n) o c u
lost_marks n o c u true out e = first_marks n o c u (out_among (ticket_of o n) c.out out) c.lost refl e
lost_marks n o c u false out e = inl e

heard_marks : (a : Arrival) (o : Posted) (c : Commits) (u : Ticket) → (heard a o c).lost ≡ Some u → Marks a o c u
heard_marks (arrivals.Reply n x) o c u e = inl (answered_marks (is_done c.timestamp x) c (ticket_of o n) u e)
heard_marks (arrivals.Lost n) o c u e = lost_marks n o c u (is_out (ticket_of o n) c) refl e
heard_marks (arrivals.Slept n) o c u e = inl e
heard_marks (arrivals.Time n x) o c u e = inl e

-- Where a transaction has just begun, or may be written, none is.

pub no_mark : {X : Type 0} (u : Ticket) → ◌≡◌ {A = Option Ticket} None (Some u) → X
no_mark u e = absurd (cc)

pub none_marked : {P : Type 0} (w : Ways P) (t : Standing P) (o : Posted) (h : List Event) (u : Ticket) → allows_data t.status ≡ true → TransactionFits w t o h → t.commits.lost ≡ Some u → {X : Type 0} → X
none_marked w t o h u on f e = let unsent = f.unsent on in no_mark u (sym (ap (λ (c : Commits). c.lost) unsent.none) ∙ e)

module _ {P : Type 0} (w : Ways P) (a : Arrival) (old new : Standing P) (from to : Posted) (turn : Turn (Result (TxnAnswer P) Error))
    (follows : (h : List Event) → is_open old.work ≡ true → TransactionFits w old from h → IfKept turn (IsFollowed from (heard a from old.commits) new.commits))
    (deaf : old.work ≡ Idle → (turn ≡ Waits) × (new ≡ old) × (to ≡ from)) (gone : GivesUp old new turn) where
  -- what a transaction marks that heard of something
  pub marks : turn ≢ Stopped → (h : List Event) → TransactionFits w old from h → (u : Ticket) → new.commits.lost ≡ Some u → Marks a from old.commits u
  marks kept h fits u e = by old.work refl
    where
      by : (g : Work P) → old.work ≡ g → Marks a from old.commits u
      by Idle i = let d = deaf i in inl (ap (λ (t : Standing P). t.commits.lost) (sym d.1) ∙ e)
      by (Open call) i = let f = IfKept-out turn kept (follows h (ap is_open i) fits) in heard_marks a from old.commits u (sym f.lost ∙ e)
      by GaveUp i = let g = gone.after i in absurd (kept g.0)

-- Histories that go on

front_then : (a b c : List Event) → Front a b → Front b c → Front a c
front_then a b c f g = (g.0 ++ f.0, g.1 ∙ ap (λ h. g.0 ++ h) f.1 ∙ sym (append_assoc g.0 f.0 a))

pub after_front : (line : ℕ) (beat : Bool) (h : List Event) (sends : List Errand) → Front h (after line beat h sends)
after_front line beat h [] = ([], refl)
after_front line beat h (e ∷ es) = front_then h (posting line beat e ∷ h) (after line beat (posting line beat e ∷ h) es) (posting line beat e ∷ [], refl) (after_front line beat (posting line beat e ∷ h) es)

heard_front : (a : Arrival) (o : Posted) (r : Request) (h : List Event) → Front h ((told_by a o r).hear h)
heard_front (arrivals.Reply n x) o r h = (Took (ticket_of o n) r x ∷ [], refl)
heard_front (arrivals.Lost n) o r h = (Lost (ticket_of o n) r ∷ [], refl)
heard_front (arrivals.Slept n) o r h = (Slept (ticket_of o n) ∷ [], refl)
heard_front (arrivals.Time n x) o r h = (Answered (ticket_of o n) x ∷ [], refl)

pub postings_front : (ps : List Posting) (h : List Event) → Front h (with_postings ps h)
postings_front [] h = ([], refl)
postings_front (Send t to r askers ∷ ps) h = front_then h (Sent t r ∷ h) (with_postings ps (Sent t r ∷ h)) (Sent t r ∷ [], refl) (postings_front ps (Sent t r ∷ h))
postings_front (Sleep t ∷ ps) h = postings_front ps h

has_behind : (newer h : List Event) (e : Event) → Has h e → Has (newer ++ h) e
has_behind [] h e i = i
has_behind (x ∷ newer) h e i = inr (has_behind newer h e i)

-- it was lost, then
pub first_lost : (s : ℕ) (k : Key) (h : List Event) (u : Ticket) (l : IsFirstLostOfPrimary s k h u) → Has h (Lost u (Commit l.request))
first_lost s k h u l = subst (λ g. Has g (Lost u (Commit l.request))) (sym l.splits) (has_behind l.newer (Lost u (Commit l.request) ∷ l.older) (Lost u (Commit l.request)) (inl refl))

pub first_older : (s : ℕ) (k : Key) (h : List Event) (u : Ticket) (l : IsFirstLostOfPrimary s k h u) (e : Event) → Has l.older e → Has h e
first_older s k h u l e i = subst (λ g. Has g e) (sym l.splits) (has_behind l.newer (Lost u (Commit l.request) ∷ l.older) e (inr i))

seen_append : (a b : List Event) → seen (a ++ b) ≡ seen a ++ seen b
seen_append [] b = refl
seen_append (Began t ms ∷ es) b = seen_append es b
seen_append (Asked a ∷ es) b = seen_append es b
seen_append (Answered a x ∷ es) b = seen_append es b
seen_append (x ∷ es) b = ap (λ g. x ∷ g) (seen_append es b)

-- as a run shows it
pub first_seen : (s : ℕ) (k : Key) (h : List Event) (u : Ticket) → IsFirstLostOfPrimary s k h u → IsFirstLostOfPrimary s k (seen h) u
first_seen s k h u l = record {
  request = l.request;
  newer = seen l.newer;
  older = seen l.older;
  splits = ap seen l.splits ∙ seen_append l.newer (Lost u (Commit l.request) ∷ l.older);
  start = l.start;
  key = l.key;
  first = λ v r other sent lost start key.
      let before = seen_had l.older (Sent v (Commit r)) sent in
      let was = seen_had l.older (Lost v (Commit r)) lost in
      let taken = l.first v r other before.0 was.0 start key in
      (taken.0, had_seen l.older (Took v (Commit r) taken.0) tt taken.1);
}

-- In a history

-- where one alone is out it is that which is lost
alone_out : (out : List Ticket) (u v : Ticket) → length out ≤ 1 → IsAmong out u → IsAmong out v → v ≡ u
alone_out [] u v few i j = absurd i
alone_out (x ∷ []) u v few i j = elim i [ inl a ↦ elim j [ inl b ↦ sym b ∙ a | inr b ↦ absurd b ] | inr a ↦ absurd a ]
alone_out (x ∷ y ∷ rest) u v few i j = absurd (omega (arith, few))

-- The one that is out, and that the transaction hears was lost, is lost first.
pub lost_heard : (plan : Plan) (s : ℕ) (c : Commits) (a : Arrival) (o : Posted) (r : Request) (h : List Event) (u : Ticket) → c.lost ≡ None → length c.out ≤ 1 → KnowsCommits plan s c h → (told_by a o r).known h
    → (n : ℕ) × (a ≡ arrivals.Lost n) × (ticket_of o n ≡ u) × IsAmong c.out u → IsFirstLostOfPrimary s plan.primary ((told_by a o r).hear h) u
lost_heard plan s c a o r h u none few k known (n, is, same, out) = by (k.waiting u out)
  where
    before : (v : Ticket) (p : CommitRequest) → v ≢ u → Has h (Sent v (Commit p)) → Has h (Lost v (Commit p)) → p.start_version ≡ s → has_key p.keys plan.primary ≡ true → (x : Reply) × Has h (Took v (Commit p) x)
    before v p other sent lost start key = elim (k.all v p sent (record { start = start; primary = key })) [
      | inl refused ↦ (refused.0, refused.1)
      | inr left ↦ elim left [ inl some ↦ absurd (some none) | inr i ↦ absurd (other (alone_out c.out u v few out i)) ]
    ]

    by : PrimarySent plan s h u → IsFirstLostOfPrimary s plan.primary ((told_by a o r).hear h) u
    by (q, sent, commits) =
        let told = subst (λ b. (told_by b o r).known h) is known in
        let one : Commit q ≡ r = told.alone (Commit q) (subst (λ t. Has h (Sent t (Commit q))) (sym same) sent) in
        subst (λ b. IsFirstLostOfPrimary s plan.primary ((told_by b o r).hear h) u) (sym is) (record {
          request = q;
          newer = [];
          older = h;
          splits = ap (λ t. Lost t r ∷ h) same ∙ ap (λ x. Lost u x ∷ h) (sym one);
          start = commits.start;
          key = commits.primary;
          first = before;
        })

module _ {P : Type 0} where
  -- where as much is marked as before
  pub marked_kept : (old new : Standing P) (h : List Event) → new.contents ≡ old.contents → new.start ≡ old.start → new.commits.lost ≡ old.commits.lost → IsMarked old h → IsMarked new h
  marked_kept old new h contents start lost m parts whole u e = subst (λ s. IsFirstLostOfPrimary (version_of s) parts.primary h u) (sym start) (m parts (ap parts_of (sym contents) ∙ whole) u (sym lost ∙ e))

  -- and where that which was out is lost now
  pub marked_heard : (a : Arrival) (o : Posted) (r : Request) (old new : Standing P) (h : List Event) → new.contents ≡ old.contents → new.start ≡ old.start → IsAlone a old → ((u : Ticket) → new.commits.lost ≡ Some u → Marks a o old.commits u)
      → ((parts : CommitParts) → parts_of old.contents ≡ Some parts → KnowsCommits (plan_of parts) (version_of old.start) old.commits h) → (told_by a o r).known h → IsMarked old h → IsMarked new ((told_by a o r).hear h)
  marked_heard a o r old new h contents start alone marks knows known m parts whole u e =
      let before = ap parts_of (sym contents) ∙ whole in
      subst (λ s. IsFirstLostOfPrimary (version_of s) parts.primary ((told_by a o r).hear h) u) (sym start) (elim (marks u e) [
        | inl is ↦ first_front (version_of old.start) parts.primary h ((told_by a o r).hear h) u (heard_front a o r h) (m parts before u is)
        | inr now ↦ lost_heard (plan_of parts) (version_of old.start) old.commits a o r h u now.1 (subst (λ b. IsAlone b old) now.0.1 alone (ap is_some now.1)) (knows parts before) known now.0
      ])

-- In a trace

module _ {P : Type 0} where
  -- where as much is marked as before
  pub marked_same : (trace longer : Option Trace) (at : ℕ) (old new : Standing P) → LongerIn trace longer → new.contents ≡ old.contents → new.start ≡ old.start → new.commits.lost ≡ old.commits.lost → MarkedIn trace at old → MarkedIn longer at new
  marked_same trace longer at old new l contents start lost m parts whole u e =
      subst (λ s. LostIn longer at (plan_of parts) (version_of s) u) (sym start) (marked_longer trace longer at old l m parts (ap parts_of (sym contents) ∙ whole) u (sym lost ∙ e))

-- what was out and is lost now is shown
pub lost_came : (plan : Plan) (s : ℕ) (c : Commits) (a : Arrival) (o : Posted) (trace : Option Trace) (at : ℕ) (h : List Event) (u : Ticket) → KnowsCommits plan s c h → ShownIn trace at h → CameIn trace o a
    → (n : ℕ) × (a ≡ arrivals.Lost n) × (ticket_of o n ≡ u) × IsAmong c.out u → LostIn trace at plan s u
lost_came plan s c a o None at h u k shown came marked = tt
lost_came plan s c a o (Some t) at h u k shown came (n, is, same, out) = by (k.waiting u out)
  where
    by : PrimarySent plan s h u → LostIn (Some t) at plan s u
    by (q, sent, commits) =
        let known = shown (Sent u (Commit q)) sent in
        let told = subst (CameIn (Some t) o) is came in
        (q, (known.0, subst (λ x. Has t.events (Lost x (Commit q))) same (told (Commit q) (subst (λ x. IsSentIn t x (Commit q)) (sym same) known.1))), commits)
