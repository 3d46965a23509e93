-- The calls of a state around one other state are calls of that state.
use Rattle.std.proofs.Common.{◌≡◌, ℕ, Bool, true, List, refl, ◌∙◌}
use Rattle.std.proofs.Math.Nat.{le_refl}
use Rattle.txn_history.specs.Around.{around, IsRead}
use Rattle.txn_history.specs.Event.{Event}
use Rattle.txn_history.specs.Meaning.{Counts, Goes, Meaning, Tells, Told}
use Rattle.txn_history.specs.Moves.{Knows, Moves-after}
use Rattle.txn_history.specs.Phase.{Phase, phase_after, unheard}
use Rattle.txn_history.specs.Phase.Phase.{Fresh, Running, Over, GivenUp}
use Rattle.txn_history.specs.Posted.{Posted}
use Rattle.txn_history.specs.Turn.{Turn, IfEnds, IfKept}
use Rattle.txn_history.specs.Turn.Turn.{Stopped, Waits, Ends}
use Rattle.txn_history.proofs.Counting.{Spends-after}

still : {A B : Type 0} (reads : A → B → Type 0) (turn : Turn A) (turn' : Turn B) (is : List Event → Type 0) (gives : List Event → A → Type 0)
    → IsRead reads turn turn' → IfKept turn' ((h : List Event) → Knows turn is gives h → is h)
still reads Stopped turn' is gives i = rw i tt
still reads Waits turn' is gives i = rw i (λ h k. k.0)
still reads (Ends a) turn' is gives i = rw i.1 (λ h k. k.0)

done : {A B : Type 0} (reads : A → B → Type 0) (turn : Turn A) (turn' : Turn B) (is : List Event → Type 0) (gives : List Event → A → Type 0)
    → IsRead reads turn turn' → IfEnds turn' (λ b. (h : List Event) → Knows turn is gives h → (a : A) × gives h a × reads a b)
done reads Stopped turn' is gives i = rw i tt
done reads Waits turn' is gives i = rw i tt
done reads (Ends a) turn' is gives i = rw i.1 (λ h k. (a, k.1, i.2))

-- the first clause: the wrapper keeps what it reads by
pub Tells-around : {S T A B : Type 0} (m : Meaning S A) (inner : T → S) (reads : T → A → B → Type 0) (more : T → Type 0) (fails : B → Bool)
    {told : Told} {old new : T} {from to : Posted} {turn : Turn A} {turn' : Turn B}
    → ((a : A) (b : B) → reads new a b → reads old a b)
    → ((a : A) (b : B) → reads old a b → reads new a b)
    → IsRead (reads old) turn turn'
    → Tells m told (inner old) (inner new) from to turn
    → Tells (around m inner reads more fails) told old new from to turn'
Tells-around m inner reads more fails {old} {new} {to = to} {turn} {turn'} given gave i t = record {
  moves = Moves-after t.moves (still (reads old) turn turn' (λ h. m.fits (inner new) to h) (m.gives (inner old)) i) (done (reads old) turn turn' (λ h. m.fits (inner new) to h) (m.gives (inner old)) i);
  job = record {
    asked = t.job.asked;
    given = λ h b g. (g.0, t.job.given h g.0 g.1, given g.0 b g.2);
    gave = λ h b g. (g.0, t.job.gave h g.0 g.1, gave g.0 b g.2);
  };
  expects = t.expects;
}

read_unheard : {A B : Type 0} (reads : A → B → Type 0) (p : Phase) (turn : Turn A) (turn' : Turn B) → IsRead reads turn turn' → turn ≡ unheard p → turn' ≡ unheard p
read_unheard reads Fresh turn turn' i e = rw e at i
read_unheard reads Running turn turn' i e = rw e at i
read_unheard reads Over turn turn' i e = rw e at i
read_unheard reads GivenUp turn turn' i e = rw e at i

read_after : {A B : Type 0} (reads : A → B → Type 0) (turn : Turn A) (turn' : Turn B) → IsRead reads turn turn' → phase_after turn ≡ phase_after turn'
read_after reads Stopped turn' i = rw i refl
read_after reads Waits turn' i = rw i refl
read_after reads (Ends a) turn' i = rw i.1 refl

-- the second: the wrapper changes where the inner state does
pub Goes-around : {S T A B C : Type 0} (phase : S → Phase) (inner : T → S) (reads : A → B → Type 0)
    {meant : Type 0} {old new : T} {from to : Posted} {pd pd' : C} {turn : Turn A} {turn' : Turn B}
    → (inner new ≡ inner old → new ≡ old)
    → IsRead reads turn turn'
    → Goes phase meant (inner old) (inner new) from to pd pd' turn
    → Goes (λ t. phase (inner t)) meant old new from to pd pd' turn'
Goes-around phase inner reads {old} {new} {turn = turn} {turn' = turn'} same i t = record {
  deaf = λ other. read_unheard reads (phase (inner old)) turn turn' i (t.deaf other);
  state = λ other. same (t.state other);
  outbox = t.outbox;
  client = t.client;
  next = λ this. t.next this ∙ read_after reads turn turn' i;
}

-- the third: the wrapper's answer is tried again only where the inner one is
pub Counts-around : {S T A B : Type 0} (m : Meaning S A) (inner : T → S) (reads : T → A → B → Type 0) (more : T → Type 0) (fails : B → Bool)
    {bad failing : Bool} {weight locked : ℕ} {old new : T} {from to : Posted} (turn : Turn A) {turn' : Turn B}
    → ((a : A) (b : B) → reads old a b → fails b ≡ true → m.fails a ≡ true)
    → IsRead (reads old) turn turn'
    → Counts m bad failing weight locked (inner old) (inner new) from to turn
    → Counts (around m inner reads more fails) bad failing weight locked old new from to turn'
Counts-around m inner reads more fails Stopped f i t = rw i (record { spends = t.spends; fewer = t.fewer })
Counts-around m inner reads more fails Waits f i t = rw i (record { spends = t.spends; fewer = t.fewer })
Counts-around m inner reads more fails (Ends a) f i t = rw i.1 (record { spends = Spends-after (f a i.0 i.2) (λ w b. b) (λ n. le_refl _) t.spends; fewer = t.fewer })
