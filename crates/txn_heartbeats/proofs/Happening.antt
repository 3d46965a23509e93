-- What has happened in a run, where heartbeats post beside the calls.
use Rattle.std.proofs.Common.{◌≡◌, inl, inr, ℕ, ◌+◌, ◌<◌, Bool, true, false, List, [], ◌∷◌, ◌++◌, refl, sym, ap, ◌∙◌, subst, arith}
use Rattle.std.proofs.lemmas.List.Elements.{All-weaker}
use Rattle.txn_history.specs.Event.{Event, Has}
use Rattle.txn_history.specs.Event.Event.{Lost, Sent}
use Rattle.txn_kv.specs.declared.errors.Error.{Error}
use Rattle.txn_kv.specs.declared.request.commits.PrewriteRequest.{PrewriteRequest}
use Rattle.txn_kv.specs.declared.request.Request.{Request}
use Rattle.txn_kv.specs.declared.request.Request.TheVariants as requests
use Rattle.txn_kv.specs.declared.ticket.Ticket.{Ticket}
use Rattle.txn_law.specs.Run.{IsPossible, IsUnused}
use Rattle.txn_report.specs.declared.outcome.Outcome.{Outcome}
use Rattle.txn_report.specs.declared.outcome.Outcome.TheVariants as outcomes
use Rattle.txn_side.specs.Arising.{Arises, IsBeat, with_posting, with_postings}
use Rattle.txn_side.specs.Doubt.{CallOf, HasLostCommit, IsFirstLostUntaken, IsInDoubt, NamesFirst, TellsDoubt, itself}
use Rattle.txn_side.specs.Saying.{SpeaksOf}
use Rattle.txn_side.specs.Sight.{next_at, ticket_in, with_next}
use Rattle.txn_side.specs.declared.turn.Ending.{Ending}
use Rattle.txn_side.specs.declared.turn.Posting.{Posting}
use Rattle.txn_side.specs.declared.turn.Posting.TheVariants.{Send, Sleep}
use Rattle.txn_heartbeats.specs.Beating.{AreBeats, AreFresh, IsLine, beat_ticket}
use Rattle.txn_heartbeats.proofs.Lists.{next_opened, next_set, raised_rises}
use Rattle.txn_heartbeats.proofs.Numbers.{AreCalls}

two : true ≡ false → ⊥
two q = cc

sent_ticket : (t u : Ticket) (r q : Request) → Sent t r ≡ Sent u q → t ≡ u
sent_ticket t u r q e = cc

pub postings_then : (ps qs : List Posting) (h : List Event) → with_postings (ps ++ qs) h ≡ with_postings qs (with_postings ps h)
postings_then [] qs h = refl
postings_then (p ∷ ps) qs h = postings_then ps qs (with_posting p h)

-- Which tickets were used

-- a line more uses none
pub fresh_opened : (from to : List ℕ) (h : List Event) → to ≡ from ++ 1 ∷ [] → AreFresh from h → AreFresh to h
fresh_opened from to h e fresh t r has beat =
    let before = fresh t r has beat in
    let rises = next_opened from (1 ∷ []) t.line in
    subst (λ bs. t.number < next_at bs t.line) (sym e) (omega (arith, before, rises))

fresh_call : (beats : List ℕ) (p : Posting) (h : List Event) → (ticket_in p).beat ≡ false → AreFresh beats h → AreFresh beats (with_posting p h)
fresh_call beats (Sleep t) h call fresh u q has beat = fresh u q has beat
fresh_call beats (Send t to r askers) h call fresh u q has beat = elim has [
  | inl same ↦ absurd (two (sym beat ∙ sym (ap (λ (v : Ticket). v.beat) (sent_ticket t u r q same)) ∙ call))
  | inr was ↦ fresh u q was beat
]

pub fresh_calls : (beats : List ℕ) (ps : List Posting) (h : List Event) → AreCalls ps → AreFresh beats h → AreFresh beats (with_postings ps h)
fresh_calls beats [] h calls fresh = fresh
fresh_calls beats (p ∷ ps) h calls fresh = fresh_calls beats ps (with_posting p h) calls.1 (fresh_call beats p h calls.0 fresh)

fresh_raised : (line : ℕ) (from : List ℕ) (h : List Event) → IsLine from line → AreFresh from h → AreFresh (with_next from line) h
fresh_raised line from h own fresh t r has beat =
    let before = fresh t r has beat in
    let rises = raised_rises from line t.line own in
    omega (arith, before, rises)

fresh_sent : (line : ℕ) (from : List ℕ) (h : List Event) (t : Ticket) (r : Request) → IsLine from line → t ≡ beat_ticket line (next_at from line) → AreFresh from h → AreFresh (with_next from line) (Sent t r ∷ h)
fresh_sent line from h t r own named fresh u q has beat = elim has [
  | inl same ↦ subst (λ (v : Ticket). v.number < next_at (with_next from line) v.line) (sym named ∙ sent_ticket t u r q same) below
  | inr was ↦ fresh_raised line from h own fresh u q was beat
]
  where
    below : next_at from line < next_at (with_next from line) line
    below = let e = next_set from line (next_at from line + 1) own in omega (arith, e)

fresh_unused : (line : ℕ) (from : List ℕ) (h : List Event) (t : Ticket) → t ≡ beat_ticket line (next_at from line) → AreFresh from h → IsUnused h t
fresh_unused line from h t named fresh q has = absurd (omega (arith, below))
  where
    below : next_at from line < next_at from line
    below = subst (λ (v : Ticket). v.number < next_at from v.line) named (fresh t q has (ap (λ (v : Ticket). v.beat) named))

-- What is in doubt: what heartbeats post is no Prewrite, and no loss, so it puts no transaction in doubt, and none out of it.

beat_prewrites : (t u : Ticket) (r : Request) (q : PrewriteRequest) → IsBeat r → Sent t r ≡ Sent u (requests.Prewrite q) → ⊥
beat_prewrites t u r q beat e = subst IsBeat (sent_same e) beat
  where
    sent_same : Sent t r ≡ Sent u (requests.Prewrite q) → r ≡ requests.Prewrite q
    sent_same same = cc

sent_lost : (t u : Ticket) (r q : Request) → Sent t r ≡ Lost u q → ⊥
sent_lost t u r q e = cc

-- with a Prewrite and a loss that are not of a heartbeat
prewrite_before : (h : List Event) (t : Ticket) (r : Request) → IsBeat r → (u : Ticket) (q : PrewriteRequest) → Has (Sent t r ∷ h) (Sent u (requests.Prewrite q)) → Has h (Sent u (requests.Prewrite q))
prewrite_before h t r beat u q has = elim has [ inl same ↦ absurd (beat_prewrites t u r q beat same) | inr was ↦ was ]

lost_before : (h : List Event) (t : Ticket) (r : Request) (u : Ticket) (q : Request) → Has (Sent t r ∷ h) (Lost u q) → Has h (Lost u q)
lost_before h t r u q has = elim has [ inl same ↦ absurd (sent_lost t u r q same) | inr was ↦ was ]

doubt_sent : (s : ℕ) (h : List Event) (t : Ticket) (r : Request) → IsBeat r → IsInDoubt s (Sent t r ∷ h) → IsInDoubt s h
doubt_sent s h t r beat d =
    let w = d.written in
    let l = d.left in
    record {
      written = (w.0, w.1, prewrite_before h t r beat w.0 w.1 w.2, w.3);
      left = record {
        ticket = l.ticket;
        commit = l.commit;
        lost = lost_before h t r l.ticket (requests.Commit l.commit) l.lost;
        same = l.same;
        primary = λ u q has. l.primary u q (inr has);
      };
      untaken = λ o took. d.untaken o (inr took);
    }

loss_sent : (s : ℕ) (h : List Event) (t : Ticket) (r : Request) → IsBeat r → HasLostCommit s h → HasLostCommit s (Sent t r ∷ h)
loss_sent s h t r beat l = record {
  ticket = l.ticket;
  commit = l.commit;
  lost = inr l.lost;
  same = l.same;
  primary = λ u q has. l.primary u q (prewrite_before h t r beat u q has);
}

-- the first Commit that was lost is the first still
first_sent : (s : ℕ) (h : List Event) (t : Ticket) (r : Request) → IsBeat r → (ticket : Ticket) → IsFirstLostUntaken s h ticket → IsFirstLostUntaken s (Sent t r ∷ h) ticket
first_sent s h t r beat ticket l = record {
  commit = l.commit;
  newer = Sent t r ∷ l.newer;
  older = l.older;
  splits = ap (λ fs. Sent t r ∷ fs) l.splits;
  same = l.same;
  primary = λ u q has. l.primary u q (prewrite_before h t r beat u q has);
  first = l.first;
}

names_sent : (s : ℕ) (e : Error) (h : List Event) (t : Ticket) (r : Request) → IsBeat r → NamesFirst s h e → NamesFirst s (Sent t r ∷ h) e
names_sent s e h t r beat n = record { ticket = n.ticket; error = n.error; first = first_sent s h t r beat n.ticket n.first }

doubt_before : (line : ℕ) (from to : List ℕ) (ps : List Posting) (h : List Event) (s : ℕ) → AreBeats line from ps to → IsInDoubt s (with_postings ps h) → IsInDoubt s h
doubt_before line from to [] h s b d = d
doubt_before line from to (Sleep t ∷ ps) h s b d = doubt_before line (with_next from line) to ps h s b.1 d
doubt_before line from to (Send t target r askers ∷ ps) h s b d = doubt_sent s h t r b.0.beats.0 (doubt_before line (with_next from line) to ps (Sent t r ∷ h) s b.1 d)

-- what stays with each request of a heartbeat stays with all that one posts
stays_after : (P : List Event → Type 0) → ((h : List Event) (t : Ticket) (r : Request) → IsBeat r → P h → P (Sent t r ∷ h)) → (line : ℕ) (from to : List ℕ) (ps : List Posting) (h : List Event) → AreBeats line from ps to → P h → P (with_postings ps h)
stays_after P sent line from to [] h b p = p
stays_after P sent line from to (Sleep t ∷ ps) h b p = stays_after P sent line (with_next from line) to ps h b.1 p
stays_after P sent line from to (Send t target r askers ∷ ps) h b p = stays_after P sent line (with_next from line) to ps (Sent t r ∷ h) b.1 (sent h t r b.0.beats.0 p)

loss_after : (line : ℕ) (from to : List ℕ) (ps : List Posting) (h : List Event) (s : ℕ) → AreBeats line from ps to → HasLostCommit s h → HasLostCommit s (with_postings ps h)
loss_after line from to ps h s b l = stays_after (λ g. HasLostCommit s g) (loss_sent s) line from to ps h b l

names_after : (line : ℕ) (from to : List ℕ) (ps : List Posting) (h : List Event) (s : ℕ) (e : Error) → AreBeats line from ps to → NamesFirst s h e → NamesFirst s (with_postings ps h) e
names_after line from to ps h s e b n = stays_after (λ g. NamesFirst s g e) (names_sent s e) line from to ps h b n

tells_still : (h longer : List Event) (s : ℕ) (commits : Bool) (o : Outcome) → (IsInDoubt s longer → IsInDoubt s h) → (HasLostCommit s h → HasLostCommit s longer) → ((e : Error) → NamesFirst s h e → NamesFirst s longer e) → TellsDoubt h s commits o → TellsDoubt longer s commits o
tells_still h longer s commits (outcomes.Err e) before after named told = elim told [
  | inl refused ↦ inl refused
  | inr says ↦ inr (record {
    always = λ d. says.always (before d);
    only = λ is. after (says.only is);
    names = λ other is. named e (says.names other is);
  })
]
tells_still h longer s commits o before after named told = tt

-- what a call said before that of its transaction is right still
speaks_still : (line : ℕ) (from to : List ℕ) (ps : List Posting) (held : ℕ → Outcome → Type 0) (h : List Event) (call : CallOf) (n : ℕ) (o : Outcome) → AreBeats line from ps to → SpeaksOf held h call n o → SpeaksOf held (with_postings ps h) call n o
speaks_still line from to ps held h call n o b speaks = λ other s began. record {
  doubt = tells_still h (with_postings ps h) s call.commits o (doubt_before line from to ps h s b) (loss_after line from to ps h s b) (λ e. names_after line from to ps h s e b) (speaks other s began).doubt;
}

-- What a heartbeat posts

-- They can have arisen from the history with these postings, and what was right is right still.
pub record GoOn (arises : List Event → Type 0) (holds : List Event → ℕ → Outcome → Type 0) (to : List ℕ) (before later : List Event) : Type 0 where
  pub now : arises later
  pub fresh : AreFresh to later
  pub kept : (x : ℕ) (o : Outcome) → holds before x o → holds later x o

module _ (arises : List Event → Type 0) (holds : List Event → ℕ → Outcome → Type 0)
    (beating : (h : List Event) (t : Ticket) (r : Request) → t.beat ≡ true → IsBeat r → IsPossible h (Sent t r) → arises h → Arises arises holds (holds h) itself (Sent t r ∷ h) []) where
  pub beats_arise : (line : ℕ) (from to : List ℕ) (ps : List Posting) (h : List Event) → AreBeats line from ps to → arises h → AreFresh from h → GoOn arises holds to h (with_postings ps h)
  beats_arise line from to [] h e a fresh = record { now = a; fresh = subst (λ bs. AreFresh bs h) (sym e) fresh; kept = λ x o k. k }
  beats_arise line from to (Sleep t ∷ ps) h b a fresh = beats_arise line (with_next from line) to ps h b.1 a (fresh_raised line from h b.0.own fresh)
  beats_arise line from to (Send t target r askers ∷ ps) h b a fresh =
      let one = beating h t r (ap (λ (v : Ticket). v.beat) b.0.ticket) b.0.beats.0 (fresh_unused line from h t b.0.ticket fresh) a in
      let rest = beats_arise line (with_next from line) to ps (Sent t r ∷ h) b.1 one.now (fresh_sent line from h t r b.0.own b.0.ticket fresh) in
      record { now = rest.now; fresh = rest.fresh; kept = λ x o k. rest.kept x o (one.kept x o k) }

  -- after a step of the clients, of which calls ended
  pub arises_then : (line : ℕ) (from to : List ℕ) (ps qs : List Posting) (es : List Ending) (held : ℕ → Outcome → Type 0) (at : ℕ → CallOf) (h : List Event) → AreBeats line from qs to → AreFresh from (with_postings ps h) → Arises arises holds held at (with_postings ps h) es
      → Arises (λ g. arises g × AreFresh to g) holds held at (with_postings (ps ++ qs) h) es
  arises_then line from to ps qs es held at h b fresh a =
      let more = beats_arise line from to qs (with_postings ps h) b a.now fresh in
      subst (λ g. Arises (λ g. arises g × AreFresh to g) holds held at g es) (sym (postings_then ps qs h)) (record {
        now = (more.now, more.fresh);
        kept = λ x o k. more.kept x o (a.kept x o k);
        answers = All-weaker (λ e. holds (with_postings ps h) (at e.line).at e.outcome) (λ e. holds (with_postings qs (with_postings ps h)) (at e.line).at e.outcome) (λ e k. more.kept (at e.line).at e.outcome k) es a.answers;
        says = All-weaker (λ e. SpeaksOf held (with_postings ps h) (at e.line) e.line e.outcome) (λ e. SpeaksOf held (with_postings qs (with_postings ps h)) (at e.line) e.line e.outcome) (λ e k. speaks_still line from to qs held (with_postings ps h) (at e.line) e.line e.outcome b k) es a.says;
      })
