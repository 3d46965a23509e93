-- A state around one other state, which hands every call on and reads the answer.
use Rattle.std.specs.Prelude.{◌≡◌, Bool}
use Rattle.txn_history.specs.Meaning.{IsLawful, IsUnbegun, Meaning}
use Rattle.txn_history.specs.Turn.{Turn}
use Rattle.txn_history.specs.Turn.Turn.{Stopped, Waits, Ends}

-- What it means, by what the inner state does. Its answer is one that it `reads` in an answer of the inner state. It may be
-- called where the inner state may, and `more` holds.
abbrev pub around : {S T A B : Type 0} → Meaning S A → (T → S) → (T → A → B → Type 0) → (T → Type 0) → (B → Bool) → Meaning T B
around {A} m inner reads more fails = record {
  fits = λ t o h. m.fits (inner t) o h;
  asks = λ t h r. m.asks (inner t) h r;
  gives = λ t h b. (a : A) × m.gives (inner t) h a × reads t a b;
  phase = λ t. m.phase (inner t);
  waits = λ t a. m.waits (inner t) a;
  ready = λ t. m.ready (inner t) × more t;
  round = λ t n. m.round (inner t) n;
  left = λ t n. m.left (inner t) n;
  width = λ t. m.width (inner t);
  bears = λ t w. m.bears (inner t) w;
  fails = fails;
}

-- how its call ends, by how the inner one does
abbrev pub IsRead : {A B : Type 0} → (A → B → Type 0) → Turn A → Turn B → Type 0
IsRead reads Stopped t = t ≡ Stopped
IsRead reads Waits t = t ≡ Waits
IsRead {B} reads (Ends a) t = (b : B) × (t ≡ Ends b) × reads a b

-- lemmas

pub around-lawful : {S T A B : Type 0} (m : Meaning S A) (inner : T → S) (reads : T → A → B → Type 0) (more : T → Type 0) (fails : B → Bool)
    → IsLawful m → IsLawful (around m inner reads more fails)
around-lawful m inner reads more fails law = record {
  fits_longer = λ t o p h longer l w f. law.fits_longer (inner t) o p h longer l w f;
  gives_longer = λ t h longer b w g. (g.0, law.gives_longer (inner t) h longer g.0 w g.1, g.2);
  bears_more = λ t w more_w l b. law.bears_more (inner t) w more_w l b;
  runs = λ t a w. law.runs (inner t) a w;
  waits = λ t o h f e. law.waits (inner t) o h f e;
  posted = λ t o h a f w. law.posted (inner t) o h a f w;
}

pub around-unbegun : {S T A B : Type 0} (m : Meaning S A) (inner : T → S) (reads : T → A → B → Type 0) (more : T → Type 0) (fails : B → Bool) (t : T)
    → IsUnbegun m (inner t) → IsUnbegun (around m inner reads more fails) t
around-unbegun m inner reads more fails t u = record { phase = u.phase; fits = u.fits; whole = u.whole; light = u.light }
