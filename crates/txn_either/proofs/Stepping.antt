-- What an event call of the one of two states does, it does of the two.
use Rattle.std.specs.Prelude.{◌≡◌, ℕ, Bool, false}
use Rattle.std.proofs.Common.{ap}
use Rattle.std.proofs.Math.Nat.{le_refl}
use Rattle.txn_history.proofs.Counting.{Spends-after}
use Rattle.txn_history.specs.Meaning.{Counts, Goes, Meaning, Tells, Told}
use Rattle.txn_history.specs.Posted.{Posted}
use Rattle.txn_history.specs.Steps.{News, Steps}
use Rattle.txn_history.specs.Turn.{Turn}
use Rattle.txn_history.specs.Turn.Turn.{Stopped, Waits, Ends}
use Rattle.txn_either.specs.Either.{either, either_touches}
use Rattle.txn_either.specs.declared.either.Either.{Either}
use Rattle.txn_either.specs.declared.either.Either.TheVariants.{First, Second}

module _ {S T A : Type 0} (m : Meaning S A) (n : Meaning T A) where
  tells_first : (told : Told) (old new : S) (from to : Posted) (turn : Turn A) → Tells m told old new from to turn → Tells (either m n) told (First old) (First new) from to turn
  tells_first told old new from to turn t = record {
    moves = record { sends = t.moves.sends; pushed = t.moves.pushed; line = t.moves.line; beat = t.moves.beat; numbered = t.moves.numbered; licensed = t.moves.licensed; still = t.moves.still; done = t.moves.done };
    job = record { asked = t.job.asked; given = t.job.given; gave = t.job.gave };
    expects = record { sends = t.expects.sends; pushed = t.expects.pushed; only = t.expects.only };
  }

  tells_second : (told : Told) (old new : T) (from to : Posted) (turn : Turn A) → Tells n told old new from to turn → Tells (either m n) told (Second old) (Second new) from to turn
  tells_second told old new from to turn t = record {
    moves = record { sends = t.moves.sends; pushed = t.moves.pushed; line = t.moves.line; beat = t.moves.beat; numbered = t.moves.numbered; licensed = t.moves.licensed; still = t.moves.still; done = t.moves.done };
    job = record { asked = t.job.asked; given = t.job.given; gave = t.job.gave };
    expects = record { sends = t.expects.sends; pushed = t.expects.pushed; only = t.expects.only };
  }

  goes_first : {C : Type 0} (meant : Type 0) (old new : S) (from to : Posted) (pd pd' : C) (turn : Turn A) → Goes m.phase meant old new from to pd pd' turn → Goes (either m n).phase meant (First old) (First new) from to pd pd' turn
  goes_first meant old new from to pd pd' turn g = record { deaf = g.deaf; state = λ not. ap First (g.state not); outbox = g.outbox; client = g.client; next = g.next }

  goes_second : {C : Type 0} (meant : Type 0) (old new : T) (from to : Posted) (pd pd' : C) (turn : Turn A) → Goes n.phase meant old new from to pd pd' turn → Goes (either m n).phase meant (Second old) (Second new) from to pd pd' turn
  goes_second meant old new from to pd pd' turn g = record { deaf = g.deaf; state = λ not. ap Second (g.state not); outbox = g.outbox; client = g.client; next = g.next }

  counts_first : (bad fails : Bool) (weight locked : ℕ) (old new : S) (from to : Posted) (turn : Turn A) → Counts m bad fails weight locked old new from to turn → Counts (either m n) bad fails weight locked (First old) (First new) from to turn
  counts_first bad fails weight locked old new from to Stopped c = record { spends = c.spends; fewer = c.fewer }
  counts_first bad fails weight locked old new from to Waits c = record { spends = c.spends; fewer = c.fewer }
  counts_first bad fails weight locked old new from to (Ends v) c = record { spends = Spends-after (λ e. absurd (cc)) (λ w b. b) (λ k. le_refl _) c.spends; fewer = c.fewer }

  counts_second : (bad fails : Bool) (weight locked : ℕ) (old new : T) (from to : Posted) (turn : Turn A) → Counts n bad fails weight locked old new from to turn → Counts (either m n) bad fails weight locked (Second old) (Second new) from to turn
  counts_second bad fails weight locked old new from to Stopped c = record { spends = c.spends; fewer = c.fewer }
  counts_second bad fails weight locked old new from to Waits c = record { spends = c.spends; fewer = c.fewer }
  counts_second bad fails weight locked old new from to (Ends v) c = record { spends = Spends-after (λ e. absurd (cc)) (λ w b. b) (λ k. le_refl _) c.spends; fewer = c.fewer }

  module _ {C : Type 0} (f : Told → Posted → S → S → C → C → Type 0) (g : Told → Posted → T → T → C → C → Type 0) where
    pub steps_first : (news : News) (old new : S) (from to : Posted) (pd pd' : C) (turn : Turn A) → Steps m f news old new from to pd pd' turn
        → Steps (either m n) (λ told o s t pd pd'. either_touches (λ s t. f told o s t pd pd') (λ s t. g told o s t pd pd') s t) news (First old) (First new) from to pd pd' turn
    steps_first news old new from to pd pd' turn x = record {
      tells = λ r. tells_first (news.told r) old new from to turn (x.tells r);
      goes = goes_first (news.meant (m.phase old) (m.waits old)) old new from to pd pd' turn x.goes;
      counts = counts_first news.bad news.fails news.weight news.locked old new from to turn x.counts;
      client = x.client;
      ready = x.ready;
      numbers = x.numbers;
    }

    pub steps_second : (news : News) (old new : T) (from to : Posted) (pd pd' : C) (turn : Turn A) → Steps n g news old new from to pd pd' turn
        → Steps (either m n) (λ told o s t pd pd'. either_touches (λ s t. f told o s t pd pd') (λ s t. g told o s t pd pd') s t) news (Second old) (Second new) from to pd pd' turn
    steps_second news old new from to pd pd' turn x = record {
      tells = λ r. tells_second (news.told r) old new from to turn (x.tells r);
      goes = goes_second (news.meant (n.phase old) (n.waits old)) old new from to pd pd' turn x.goes;
      counts = counts_second news.bad news.fails news.weight news.locked old new from to turn x.counts;
      client = x.client;
      ready = x.ready;
      numbers = x.numbers;
    }
