-- What an event call of the one of two states does, it does of the two.
use Rattle.std.proofs.Common.{ap, ◌∙◌}
use Rattle.std.proofs.Math.Nat.{le_refl}
use Rattle.std.proofs.lemmas.Bool.{false≢true}
use Rattle.std.specs.Prelude.{◌≡◌, ◌&&◌, ℕ, Bool, true, false, List, Result, Ok, Err, refl}
use Rattle.txn_kv.specs.declared.errors.Error.{Error}
use Rattle.txn_kv.specs.declared.progress.Progress.{Progress}
use Rattle.txn_kv.specs.declared.progress.Progress.TheVariants.{Waiting, Done}
use Rattle.txn_kv.specs.declared.request.Request.{Request}
use Rattle.txn_history.proofs.Counting.{Spends-after}
use Rattle.txn_history.specs.Event.{Event}
use Rattle.txn_history.specs.Meaning.{Counts, Goes, Meaning, Tells, Told}
use Rattle.txn_history.specs.Moves.{Moves}
use Rattle.txn_history.specs.Phase.{phase_after, unheard, Phase}
use Rattle.txn_history.specs.Phase.Phase.{Fresh, Running, Over, GivenUp}
use Rattle.txn_history.specs.Posted.{Posted}
use Rattle.txn_history.specs.Steps.{News, Steps}
use Rattle.txn_history.specs.Turn.{turn_of, Turn}
use Rattle.txn_history.specs.Turn.Turn.{Stopped, Waits, Ends}
use Rattle.txn_routine.specs.OneOf.{answer_first, answer_second, first_longer, of_first, of_second, one_of, one_of_touches, progress_first, progress_second, second_longer}
use Rattle.txn_routine.specs.declared.one_of.OneOf.{OneOf}
use Rattle.txn_routine.specs.declared.one_of.OneOf.TheVariants.{First, Second}

and_left : (a b : Bool) → a && b ≡ true → a ≡ true
and_left true b e = refl
and_left false b e = absurd (false≢true e)

and_right : (a b : Bool) → a && b ≡ true → b ≡ true
and_right true b e = e
and_right false b e = absurd (false≢true e)

-- the first of the two

abbrev pub turn_first : {A B : Type 0} → Turn (Result A Error) → Turn (Result (OneOf A B) Error)
turn_first Stopped = Stopped
turn_first Waits = Waits
turn_first (Ends v) = Ends (answer_first v)

pub progress_of_first : {A B : Type 0} (p : Progress A) (q : Progress (OneOf A B)) → q ≡ progress_first p → turn_of (Ok q) ≡ turn_first (turn_of (Ok p))
progress_of_first Waiting q e = rw e refl
progress_of_first (Done v) q e = rw e refl

unheard_first : {A B : Type 0} (p : Phase) (turn : Turn (Result A Error)) → turn ≡ unheard p → turn_first {A = A} {B = B} turn ≡ unheard p
unheard_first Fresh turn e = rw e refl
unheard_first Running turn e = rw e refl
unheard_first Over turn e = rw e refl
unheard_first GivenUp turn e = rw e refl

after_first : {A : Type 0} (B : Type 0) (turn : Turn (Result A Error)) → phase_after turn ≡ phase_after (turn_first {A = A} {B = B} turn)
after_first B Stopped = refl
after_first B Waits = refl
after_first B (Ends v) = refl

moves_first : {A B : Type 0} {may : List Event → Request → Type 0} {was is : List Event → Type 0} (gives : List Event → Result A Error → Type 0) {hear : List Event → List Event} {from to : Posted} (turn : Turn (Result A Error))
    → Moves may was is gives hear from to turn → Moves may was is (λ h v. of_first {A = A} {B = B} (gives h) v) hear from to (turn_first turn)
moves_first gives Stopped s = record { sends = s.sends; pushed = s.pushed; line = s.line; beat = s.beat; numbered = s.numbered; licensed = s.licensed; still = tt; done = tt }
moves_first gives Waits s = record { sends = s.sends; pushed = s.pushed; line = s.line; beat = s.beat; numbered = s.numbered; licensed = s.licensed; still = s.still; done = tt }
moves_first gives (Ends (Ok a)) s = record { sends = s.sends; pushed = s.pushed; line = s.line; beat = s.beat; numbered = s.numbered; licensed = s.licensed; still = s.still; done = s.done }
moves_first gives (Ends (Err e)) s = record { sends = s.sends; pushed = s.pushed; line = s.line; beat = s.beat; numbered = s.numbered; licensed = s.licensed; still = s.still; done = s.done }

module _ {S T A B : Type 0} (m : Meaning S (Result A Error)) (n : Meaning T (Result B Error)) where
  tells_first : (told : Told) (old new : S) (from to : Posted) (turn : Turn (Result A Error)) → Tells m told old new from to turn → Tells (one_of m n) told (First old) (First new) from to (turn_first turn)
  tells_first told old new from to turn t = record {
    moves = moves_first (λ h v. m.gives old h v) turn t.moves;
    job = record {
      asked = t.job.asked;
      given = λ h v g. first_longer (m.gives new h) (m.gives old h) v (λ a i. t.job.given h a i) g;
      gave = λ h v g. first_longer (m.gives old h) (m.gives new h) v (λ a i. t.job.gave h a i) g;
    };
    expects = record { sends = t.expects.sends; pushed = t.expects.pushed; only = t.expects.only };
  }

  goes_first : {C : Type 0} (meant : Type 0) (old new : S) (from to : Posted) (pd pd' : C) (turn : Turn (Result A Error)) → Goes m.phase meant old new from to pd pd' turn → Goes (one_of m n).phase meant (First old) (First new) from to pd pd' (turn_first {A = A} {B = B} turn)
  goes_first meant old new from to pd pd' turn g = record {
    deaf = λ other. unheard_first (m.phase old) turn (g.deaf other);
    state = λ other. ap First (g.state other);
    outbox = g.outbox;
    client = g.client;
    next = λ this. g.next this ∙ after_first B turn;
  }

  counts_first : (bad fails : Bool) (weight locked : ℕ) (old new : S) (from to : Posted) (turn : Turn (Result A Error)) → Counts m bad fails weight locked old new from to turn → Counts (one_of m n) bad fails weight locked (First old) (First new) from to (turn_first turn)
  counts_first bad fails weight locked old new from to Stopped c = record { spends = c.spends; fewer = c.fewer }
  counts_first bad fails weight locked old new from to Waits c = record { spends = c.spends; fewer = c.fewer }
  counts_first bad fails weight locked old new from to (Ends (Ok a)) c = record { spends = c.spends; fewer = c.fewer }
  counts_first bad fails weight locked old new from to (Ends (Err e)) c = record { spends = Spends-after (λ f. and_left (m.fails (Err e)) (n.fails (Err e)) f) (λ w b. b) (λ k. le_refl _) c.spends; fewer = c.fewer }

  pub steps_first : {C : Type 0} (f : Told → Posted → S → S → C → C → Type 0) (g : Told → Posted → T → T → C → C → Type 0) (news : News) (old new : S) (from to : Posted) (pd pd' : C) (turn : Turn (Result A Error)) → Steps m f news old new from to pd pd' turn
      → Steps (one_of m n) (λ told o s t pd pd'. one_of_touches (λ s t. f told o s t pd pd') (λ s t. g told o s t pd pd') s t) news (First old) (First new) from to pd pd' (turn_first turn)
  steps_first f g news old new from to pd pd' turn x = record {
    tells = λ r. tells_first (news.told r) old new from to turn (x.tells r);
    goes = goes_first (news.meant (m.phase old) (m.waits old)) old new from to pd pd' turn x.goes;
    counts = counts_first news.bad news.fails news.weight news.locked old new from to turn x.counts;
    client = x.client;
    ready = x.ready;
    numbers = x.numbers;
  }

-- the second of the two

abbrev pub turn_second : {A B : Type 0} → Turn (Result B Error) → Turn (Result (OneOf A B) Error)
turn_second Stopped = Stopped
turn_second Waits = Waits
turn_second (Ends v) = Ends (answer_second v)

pub progress_of_second : {A B : Type 0} (p : Progress B) (q : Progress (OneOf A B)) → q ≡ progress_second p → turn_of (Ok q) ≡ turn_second (turn_of (Ok p))
progress_of_second Waiting q e = rw e refl
progress_of_second (Done v) q e = rw e refl

unheard_second : {A B : Type 0} (p : Phase) (turn : Turn (Result B Error)) → turn ≡ unheard p → turn_second {A = A} {B = B} turn ≡ unheard p
unheard_second Fresh turn e = rw e refl
unheard_second Running turn e = rw e refl
unheard_second Over turn e = rw e refl
unheard_second GivenUp turn e = rw e refl

after_second : {B : Type 0} (A : Type 0) (turn : Turn (Result B Error)) → phase_after turn ≡ phase_after (turn_second {A = A} {B = B} turn)
after_second A Stopped = refl
after_second A Waits = refl
after_second A (Ends v) = refl

moves_second : {A B : Type 0} {may : List Event → Request → Type 0} {was is : List Event → Type 0} (gives : List Event → Result B Error → Type 0) {hear : List Event → List Event} {from to : Posted} (turn : Turn (Result B Error))
    → Moves may was is gives hear from to turn → Moves may was is (λ h v. of_second {A = A} {B = B} (gives h) v) hear from to (turn_second turn)
moves_second gives Stopped s = record { sends = s.sends; pushed = s.pushed; line = s.line; beat = s.beat; numbered = s.numbered; licensed = s.licensed; still = tt; done = tt }
moves_second gives Waits s = record { sends = s.sends; pushed = s.pushed; line = s.line; beat = s.beat; numbered = s.numbered; licensed = s.licensed; still = s.still; done = tt }
moves_second gives (Ends (Ok a)) s = record { sends = s.sends; pushed = s.pushed; line = s.line; beat = s.beat; numbered = s.numbered; licensed = s.licensed; still = s.still; done = s.done }
moves_second gives (Ends (Err e)) s = record { sends = s.sends; pushed = s.pushed; line = s.line; beat = s.beat; numbered = s.numbered; licensed = s.licensed; still = s.still; done = s.done }

module _ {S T A B : Type 0} (m : Meaning S (Result A Error)) (n : Meaning T (Result B Error)) where
  tells_second : (told : Told) (old new : T) (from to : Posted) (turn : Turn (Result B Error)) → Tells n told old new from to turn → Tells (one_of m n) told (Second old) (Second new) from to (turn_second turn)
  tells_second told old new from to turn t = record {
    moves = moves_second (λ h v. n.gives old h v) turn t.moves;
    job = record {
      asked = t.job.asked;
      given = λ h v g. second_longer (n.gives new h) (n.gives old h) v (λ a i. t.job.given h a i) g;
      gave = λ h v g. second_longer (n.gives old h) (n.gives new h) v (λ a i. t.job.gave h a i) g;
    };
    expects = record { sends = t.expects.sends; pushed = t.expects.pushed; only = t.expects.only };
  }

  goes_second : {C : Type 0} (meant : Type 0) (old new : T) (from to : Posted) (pd pd' : C) (turn : Turn (Result B Error)) → Goes n.phase meant old new from to pd pd' turn → Goes (one_of m n).phase meant (Second old) (Second new) from to pd pd' (turn_second {A = A} {B = B} turn)
  goes_second meant old new from to pd pd' turn g = record {
    deaf = λ other. unheard_second (n.phase old) turn (g.deaf other);
    state = λ other. ap Second (g.state other);
    outbox = g.outbox;
    client = g.client;
    next = λ this. g.next this ∙ after_second A turn;
  }

  counts_second : (bad fails : Bool) (weight locked : ℕ) (old new : T) (from to : Posted) (turn : Turn (Result B Error)) → Counts n bad fails weight locked old new from to turn → Counts (one_of m n) bad fails weight locked (Second old) (Second new) from to (turn_second turn)
  counts_second bad fails weight locked old new from to Stopped c = record { spends = c.spends; fewer = c.fewer }
  counts_second bad fails weight locked old new from to Waits c = record { spends = c.spends; fewer = c.fewer }
  counts_second bad fails weight locked old new from to (Ends (Ok a)) c = record { spends = c.spends; fewer = c.fewer }
  counts_second bad fails weight locked old new from to (Ends (Err e)) c = record { spends = Spends-after (λ f. and_right (m.fails (Err e)) (n.fails (Err e)) f) (λ w b. b) (λ k. le_refl _) c.spends; fewer = c.fewer }

  pub steps_second : {C : Type 0} (f : Told → Posted → S → S → C → C → Type 0) (g : Told → Posted → T → T → C → C → Type 0) (news : News) (old new : T) (from to : Posted) (pd pd' : C) (turn : Turn (Result B Error)) → Steps n g news old new from to pd pd' turn
      → Steps (one_of m n) (λ told o s t pd pd'. one_of_touches (λ s t. f told o s t pd pd') (λ s t. g told o s t pd pd') s t) news (Second old) (Second new) from to pd pd' (turn_second turn)
  steps_second f g news old new from to pd pd' turn x = record {
    tells = λ r. tells_second (news.told r) old new from to turn (x.tells r);
    goes = goes_second (news.meant (n.phase old) (n.waits old)) old new from to pd pd' turn x.goes;
    counts = counts_second news.bad news.fails news.weight news.locked old new from to turn x.counts;
    client = x.client;
    ready = x.ready;
    numbers = x.numbers;
  }
