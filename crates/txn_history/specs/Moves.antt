-- What one event call of a state does, over each history from which the state can have arisen. Histories stand with the
-- newest event first, and what is said of them stays true as they grow (`Within`), so that the events of other states do no
-- harm.
use Rattle.std.specs.Prelude.{◌≡◌, ◌≢◌, ◌+◌, ℕ, List, [], ◌∷◌, ◌++◌, refl}
use Rattle.std.proofs.Common.{append-nil, append_assoc, sym, ap, ◌∙◌}
use Rattle.txn_kv.specs.declared.ticket.Target.{Target}
use Rattle.txn_kv.specs.declared.request.Request.{Request}
use Rattle.txn_history.specs.Event.{Event}
use Rattle.txn_history.specs.Event.Event.{Sent, Began, Asked}
use Rattle.txn_history.specs.Posted.{Errand, Posted, ticket_of, posting, after, after-append, Within, Within-trans, Within-after, AreNumbered, AreNumbered-append, Licensed, Licensed-append, Licensed-weaker}
use Rattle.txn_kv.specs.declared.outbox.Errand.TheVariants.{Send, Sleep, Ask}
use Rattle.txn_history.specs.Turn.{Turn, IfKept, IfEnds, IfKept-weaker, IfKept-stopped, IfKept-out, IfEnds-weaker, IfEnds-stopped}
use Rattle.txn_history.specs.Turn.Turn.{Stopped, Waits}

-- the new state asks no more than the old one, and its answers mean the same
pub record SameJob {S A : Type 0} (asks : S → List Event → Request → Type 0) (gives : S → List Event → A → Type 0) (new old : S) : Type 0 where
  pub asked : (h : List Event) (r : Request) → asks new h r → asks old h r
  pub given : (h : List Event) (v : A) → gives new h v → gives old h v
  pub gave : (h : List Event) (v : A) → gives old h v → gives new h v

-- From a state that was so, to one that is so, hearing an event and posting what may be posted. What is heard is nothing
-- where a state starts; `Took`, of each request that may have been sent under the number, where it takes a reply; `Lost` or
-- `Slept` where it is told so; and `Answered` where it takes a timestamp.
pub record Moves {A : Type 0}
    (may : List Event → Request → Type 0) (was is : List Event → Type 0) (gives : List Event → A → Type 0)
    (hear : List Event → List Event) (from to : Posted) (turn : Turn A) : Type 0 where
  -- what is posted, behind what there was, by the same line
  pub sends : List Errand
  pub pushed : to.sends ≡ from.sends ++ sends
  pub line : to.line ≡ from.line
  pub beat : to.beat ≡ from.beat
  -- under numbers that rise by one
  pub numbered : AreNumbered from.next from.next_ask sends to.next to.next_ask
  -- each request may be sent, whatever history led here; also where the call gave up
  pub licensed : (h : List Event) → was h → Licensed may from.line from.beat (hear h) sends
  -- the new state has arisen from the longer history
  pub still : IfKept turn ((h : List Event) → was h → is (after from.line from.beat (hear h) sends))
  -- the answer stands on it
  pub done : IfEnds turn (λ v. (h : List Event) → was h → gives (after from.line from.beat (hear h) sends) v)

-- nothing is posted
pub Moves-quiet : {A : Type 0}
    {may : List Event → Request → Type 0} {was is : List Event → Type 0} {gives : List Event → A → Type 0}
    {hear : List Event → List Event} {from to : Posted} {turn : Turn A}
    → to ≡ from
    → IfKept turn ((h : List Event) → was h → is (hear h))
    → IfEnds turn (λ v. (h : List Event) → was h → gives (hear h) v)
    → Moves may was is gives hear from to turn
Moves-quiet {from} e s d = record {
  sends = [];
  pushed = rw e (sym (append-nil from.sends));
  line = ap (λ (o : Posted). o.line) e;
  beat = ap (λ (o : Posted). o.beat) e;
  numbered = (ap (λ (o : Posted). o.next) e, ap (λ (o : Posted). o.next_ask) e);
  licensed = λ h f. tt;
  still = s;
  done = d;
}

-- the call gives up, and nothing is posted
pub Moves-stopped : {A : Type 0}
    {may : List Event → Request → Type 0} {was is : List Event → Type 0} {gives : List Event → A → Type 0}
    {hear : List Event → List Event} {from to : Posted} {turn : Turn A}
    → turn ≡ Stopped → to ≡ from → Moves may was is gives hear from to turn
Moves-stopped {turn} i e = Moves-quiet e (IfKept-stopped turn _ i) (IfEnds-stopped turn _ i)

-- one errand is posted, and there is no answer yet
Moves-posted : {A : Type 0}
    {may : List Event → Request → Type 0} {was is : List Event → Type 0} {gives : List Event → A → Type 0}
    {hear : List Event → List Event} {from to : Posted} (r : Errand)
    → to.sends ≡ from.sends ++ r ∷ [] → to.line ≡ from.line → to.beat ≡ from.beat
    → AreNumbered from.next from.next_ask (r ∷ []) to.next to.next_ask
    → ((h : List Event) → was h → Licensed may from.line from.beat (hear h) (r ∷ []))
    → ((h : List Event) → was h → is (posting from.line from.beat r ∷ hear h))
    → Moves may was is gives hear from to Waits
Moves-posted r e l b n m s = record { sends = r ∷ []; pushed = e; line = l; beat = b; numbered = n; licensed = m; still = s; done = tt }

-- one request is sent
pub Moves-sent : {A : Type 0}
    {may : List Event → Request → Type 0} {was is : List Event → Type 0} {gives : List Event → A → Type 0}
    {hear : List Event → List Event} {from to : Posted} (to_whom : Target) (r : Request)
    → to ≡ record from { next = from.next + 1; sends = from.sends ++ Send from.next to_whom r ∷ [] }
    → ((h : List Event) → was h → may (hear h) r)
    → ((h : List Event) → was h → is (Sent (ticket_of from from.next) r ∷ hear h))
    → Moves may was is gives hear from to Waits
Moves-sent {from} to_whom r e m s = Moves-posted (Send from.next to_whom r) (ap (λ (o : Posted). o.sends) e) (ap (λ (o : Posted). o.line) e) (ap (λ (o : Posted). o.beat) e) (refl, (ap (λ (o : Posted). o.next) e, ap (λ (o : Posted). o.next_ask) e)) (λ h f. (m h f, tt)) s

-- one sleep is begun
pub Moves-slept : {A : Type 0}
    {may : List Event → Request → Type 0} {was is : List Event → Type 0} {gives : List Event → A → Type 0}
    {hear : List Event → List Event} {from to : Posted} (ms : ℕ)
    → to ≡ record from { next = from.next + 1; sends = from.sends ++ Sleep from.next ms ∷ [] }
    → ((h : List Event) → was h → is (Began (ticket_of from from.next) ms ∷ hear h))
    → Moves may was is gives hear from to Waits
Moves-slept {from} ms e s = Moves-posted (Sleep from.next ms) (ap (λ (o : Posted). o.sends) e) (ap (λ (o : Posted). o.line) e) (ap (λ (o : Posted). o.beat) e) (refl, (ap (λ (o : Posted). o.next) e, ap (λ (o : Posted). o.next_ask) e)) (λ h f. (tt, tt)) s

-- a timestamp is asked for
pub Moves-asked : {A : Type 0}
    {may : List Event → Request → Type 0} {was is : List Event → Type 0} {gives : List Event → A → Type 0}
    {hear : List Event → List Event} {from to : Posted}
    → to ≡ record from { next_ask = from.next_ask + 1; sends = from.sends ++ Ask from.next_ask ∷ [] }
    → ((h : List Event) → was h → is (Asked (ticket_of from from.next_ask) ∷ hear h))
    → Moves may was is gives hear from to Waits
Moves-asked {from} e s = Moves-posted (Ask from.next_ask) (ap (λ (o : Posted). o.sends) e) (ap (λ (o : Posted). o.line) e) (ap (λ (o : Posted). o.beat) e) (refl, (ap (λ (o : Posted). o.next) e, ap (λ (o : Posted). o.next_ask) e)) (λ h f. (tt, tt)) s

-- a call that gives up in the end owes no more
pub Moves-stops : {A B : Type 0}
    {may : List Event → Request → Type 0} {was is is' : List Event → Type 0} {gives : List Event → A → Type 0} {gives' : List Event → B → Type 0}
    {hear : List Event → List Event} {from to : Posted} {before : Turn A} {turn : Turn B}
    → Moves may was is gives hear from to before
    → turn ≡ Stopped
    → Moves may was is' gives' hear from to turn
Moves-stops {turn} s i = record {
  sends = s.sends;
  pushed = s.pushed;
  line = s.line;
  beat = s.beat;
  numbered = s.numbered;
  licensed = s.licensed;
  still = IfKept-stopped turn _ i;
  done = IfEnds-stopped turn _ i;
}

-- what is known of the state, and that the answer stands
abbrev pub Knows : {A : Type 0} → Turn A → (List Event → Type 0) → (List Event → A → Type 0) → List Event → Type 0
Knows p is gives h = IfKept p (is h) × IfEnds p (λ v. gives h v)

knows_after : {A : Type 0} (p : Turn A) (was mid : List Event → Type 0) (gives : List Event → A → Type 0) (longer : List Event → List Event)
    → IfKept p ((h : List Event) → was h → mid (longer h)) → IfEnds p (λ v. (h : List Event) → was h → gives (longer h) v)
    → (h : List Event) → was h → Knows p mid gives (longer h)
knows_after p was mid gives longer s d h f = (IfKept-weaker p (λ q. q h f) s, IfEnds-weaker p (λ v q. q h f) d)

-- one call after another, which may rest on the answer of the first
pub Moves-then : {A B : Type 0}
    {may : List Event → Request → Type 0} {was mid is : List Event → Type 0} {gives : List Event → A → Type 0} {gives' : List Event → B → Type 0}
    {hear : List Event → List Event} {from via to : Posted} {p : Turn A} {turn : Turn B}
    → Moves may was mid gives hear from via p
    → Moves may (Knows p mid gives) is gives' (λ h. h) via to turn
    → Moves may was is gives' hear from to turn
Moves-then {may} {was} {mid} {gives} {hear} {from} {via} {p} {turn} s t =
    let known = knows_after p was mid gives (λ h. after from.line from.beat (hear h) s.sends) s.still s.done in
    record {
      sends = s.sends ++ t.sends;
      pushed = t.pushed ∙ ap (λ x. x ++ t.sends) s.pushed ∙ append_assoc from.sends s.sends t.sends;
      line = t.line ∙ s.line;
      beat = t.beat ∙ s.beat;
      numbered = AreNumbered-append _ _ _ _ _ _ s.sends t.sends s.numbered t.numbered;
      licensed = λ h f. Licensed-append may from.line from.beat (hear h) s.sends t.sends (s.licensed h f) (rw (← s.line, ← s.beat) (t.licensed _ (rw (s.line, s.beat) (known h f))));
      still = IfKept-weaker turn (λ q h f. rw after-append (rw (← s.line, ← s.beat) (q _ (rw (s.line, s.beat) (known h f))))) t.still;
      done = IfEnds-weaker turn (λ v q h f. rw after-append (rw (← s.line, ← s.beat) (q _ (rw (s.line, s.beat) (known h f))))) t.done;
    }

-- the same call, of a state around it
pub Moves-map : {A : Type 0}
    {may may' : List Event → Request → Type 0} {was was' is is' : List Event → Type 0} {gives gives' : List Event → A → Type 0}
    {hear : List Event → List Event} {from to : Posted} {turn : Turn A}
    → ((h : List Event) → Within h (hear h))
    → ((h : List Event) → was' h → was h)
    → ((h : List Event) → was' h → (k : List Event) (r : Request) → may k r → may' k r)
    → ((h : List Event) → was' h → (k : List Event) → Within h k → is k → is' k)
    → ((h : List Event) → was' h → (k : List Event) (v : A) → gives k v → gives' k v)
    → Moves may was is gives hear from to turn
    → Moves may' was' is' gives' hear from to turn
Moves-map {hear} {from} {turn} l w m i g s = record {
  sends = s.sends;
  pushed = s.pushed;
  line = s.line;
  beat = s.beat;
  numbered = s.numbered;
  licensed = λ h f. Licensed-weaker (m h f) from.line from.beat (hear h) s.sends (s.licensed h (w h f));
  still = IfKept-weaker turn (λ q h f. i h f _ (Within-trans h (hear h) _ (l h) (Within-after from.line from.beat (hear h) s.sends)) (q h (w h f))) s.still;
  done = IfEnds-weaker turn (λ v q h f. g h f _ v (q h (w h f))) s.done;
}

-- a premise that says more serves too
pub Moves-before : {A : Type 0}
    {may : List Event → Request → Type 0} {was was' is : List Event → Type 0} {gives : List Event → A → Type 0}
    {hear : List Event → List Event} {from to : Posted} {turn : Turn A}
    → ((h : List Event) → was' h → was h)
    → Moves may was is gives hear from to turn
    → Moves may was' is gives hear from to turn
Moves-before {turn} w s = record {
  sends = s.sends;
  pushed = s.pushed;
  line = s.line;
  beat = s.beat;
  numbered = s.numbered;
  licensed = λ h f. s.licensed h (w h f);
  still = IfKept-weaker turn (λ q h f. q h (w h f)) s.still;
  done = IfEnds-weaker turn (λ v q h f. q h (w h f)) s.done;
}

-- one call after another, where the first has no answer that counts
pub Moves-next : {A B : Type 0}
    {may : List Event → Request → Type 0} {was mid is : List Event → Type 0} {gives : List Event → A → Type 0} {gives' : List Event → B → Type 0}
    {hear : List Event → List Event} {from via to : Posted} {p : Turn A} {turn : Turn B}
    → p ≢ Stopped
    → Moves may was mid gives hear from via p
    → Moves may mid is gives' (λ h. h) via to turn
    → Moves may was is gives' hear from to turn
Moves-next {p} kept s t = Moves-then s (Moves-before (λ h f. IfKept-out p kept f.0) t)

-- a call, and then work on the state alone
pub Moves-after : {A B : Type 0}
    {may : List Event → Request → Type 0} {was mid is : List Event → Type 0} {gives : List Event → A → Type 0} {gives' : List Event → B → Type 0}
    {hear : List Event → List Event} {from to : Posted} {p : Turn A} {q : Turn B}
    → Moves may was mid gives hear from to p
    → IfKept q ((h : List Event) → Knows p mid gives h → is h)
    → IfEnds q (λ v. (h : List Event) → Knows p mid gives h → gives' h v)
    → Moves may was is gives' hear from to q
Moves-after {was} {mid} {gives} {hear} {from} {p} {q} s i d =
    let known = knows_after p was mid gives (λ h. after from.line from.beat (hear h) s.sends) s.still s.done in
    record {
      sends = s.sends;
      pushed = s.pushed;
      line = s.line;
      beat = s.beat;
      numbered = s.numbered;
      licensed = s.licensed;
      still = IfKept-weaker q (λ k h f. k _ (known h f)) i;
      done = IfEnds-weaker q (λ v k h f. k _ (known h f)) d;
    }

pub SameJob-trans : {S A : Type 0} {asks : S → List Event → Request → Type 0} {gives : S → List Event → A → Type 0} {a b c : S}
    → SameJob asks gives c b → SameJob asks gives b a → SameJob asks gives c a
SameJob-trans s t = record {
  asked = λ h r x. t.asked h r (s.asked h r x);
  given = λ h v x. t.given h v (s.given h v x);
  gave = λ h v x. s.gave h v (t.gave h v x);
}
