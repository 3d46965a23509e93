-- The numbers of what is posted: those of calls and those of heartbeats do not meet.
use Rattle.std.proofs.Common.{◌≡◌, inl, inr, ℕ, zero, suc, ◌+◌, ◌≤◌, Bool, true, false, List, [], ◌∷◌, ◌++◌, length, map, refl, sym, ap, subst, arith}
use Rattle.std.proofs.lemmas.Bool.{cases_Bool}
use Rattle.std.proofs.lemmas.List.Elements.{All-cons, All-nil}
use Rattle.std.specs.List.{All}
use Rattle.std.specs.Prelude.{⊤}
use Rattle.txn_kv.specs.declared.request.Request.{Request}
use Rattle.txn_kv.specs.declared.request.Request.TheVariants as requests
use Rattle.txn_kv.specs.declared.ticket.Ticket.{Ticket}
use Rattle.txn_side.specs.Arising.{IsBeat}
use Rattle.txn_side.specs.Sight.{ArePosted, AskFor, AskersAre, HasAskers, IsNext, Nexts, next_at, numbers_of, raised, ticket_in, with_next}
use Rattle.txn_side.specs.declared.turn.Posting.{Posting}
use Rattle.txn_side.specs.declared.turn.Posting.TheVariants.{Send, Sleep}
use Rattle.txn_heartbeats.specs.Beating.{AreBeats, IsLine, IsNextBeat, IsOfBeat}
use Rattle.txn_heartbeats.proofs.Lists.{next_set, raised_rises}

-- none is posted by a heartbeat
abbrev pub AreCalls : List Posting → Type 0
AreCalls [] = ⊤
AreCalls (p ∷ ps) = ((ticket_in p).beat ≡ false) × AreCalls ps

-- What calls post

pub posted_append : (from mid to : Nexts) (ps qs : List Posting) → ArePosted from ps mid → ArePosted mid qs to → ArePosted from (ps ++ qs) to
posted_append from mid to [] qs a b = subst (λ (n : Nexts). ArePosted n qs to) a b
posted_append from mid to (p ∷ ps) qs a b = (a.0, a.1, posted_append (raised (ticket_in p).beat (ticket_in p).line from) mid to ps qs a.2 b)

-- the numbers of heartbeats are of other places
call_next : (beats : List ℕ) (from : Nexts) (t : Ticket) → t.beat ≡ false → IsNext from t → IsNext (record from { beats = beats }) t
call_next beats from t call next = record {
  first = next.first;
  last = subst (λ b. t.line ≤ length (numbers_of b (record from { beats = beats }))) (sym call) (subst (λ b. t.line ≤ length (numbers_of b from)) call next.last);
  number = subst (λ b. t.number ≡ next_at (numbers_of b (record from { beats = beats })) t.line) (sym call) (subst (λ b. t.number ≡ next_at (numbers_of b from) t.line) call next.number);
}

call_raised : (beats : List ℕ) (from : Nexts) (t : Ticket) → t.beat ≡ false → record (raised t.beat t.line from) { beats = beats } ≡ raised t.beat t.line (record from { beats = beats })
call_raised beats from t call = subst (λ b. record (raised b t.line from) { beats = beats } ≡ raised b t.line (record from { beats = beats })) (sym call) refl

pub calls_posted : (beats : List ℕ) (from to : Nexts) (ps : List Posting) → AreCalls ps → ArePosted from ps to → ArePosted (record from { beats = beats }) ps (record to { beats = beats })
calls_posted beats from to [] calls e = ap (λ (n : Nexts). record n { beats = beats }) e
calls_posted beats from to (p ∷ ps) calls a = (
  call_next beats from (ticket_in p) calls.0 a.0,
  a.1,
  subst (λ (n : Nexts). ArePosted n ps (record to { beats = beats })) (call_raised beats from (ticket_in p) calls.0) (calls_posted beats (raised (ticket_in p).beat (ticket_in p).line from) to ps calls.1 a.2),
)

-- Where no number of a heartbeat is used, all is of calls

beat_line : (from : Nexts) (t : Ticket) → t.beat ≡ true → IsNext from t → IsLine from.beats t.line
beat_line from t beat next = record { first = next.first; last = subst (λ b. t.line ≤ length (numbers_of b from)) beat next.last }

raised_so : (b : Bool) (line : ℕ) (from : Nexts) → (b ≡ true → IsLine from.beats line) → (n : ℕ) → next_at from.beats n ≤ next_at (raised b line from).beats n
raised_so true line from own n = raised_rises from.beats line n (own refl)
raised_so false line from own n = omega arith

posted_rise : (from to : Nexts) (ps : List Posting) → ArePosted from ps to → (n : ℕ) → next_at from.beats n ≤ next_at to.beats n
posted_rise from to [] e n = subst (λ (x : Nexts). next_at from.beats n ≤ next_at x.beats n) (sym e) (omega arith)
posted_rise from to (p ∷ ps) a n =
    let first = raised_so (ticket_in p).beat (ticket_in p).line from (λ beat. beat_line from (ticket_in p) beat a.0) n in
    let rest = posted_rise (raised (ticket_in p).beat (ticket_in p).line from) to ps a.2 n in
    omega (arith, first, rest)

ones_count : (xs : List ℕ) (n : ℕ) → next_at (map (λ (x : ℕ). 1) xs) n ≤ 1
ones_count xs zero = omega arith
ones_count [] (suc i) = omega arith
ones_count (x ∷ xs) (suc zero) = omega arith
ones_count (x ∷ xs) (suc (suc i)) = ones_count xs (suc i)

ones_there : (xs : List ℕ) (n : ℕ) → 1 ≤ n → n ≤ length {A = ℕ} (map (λ (x : ℕ). 1) xs) → 1 ≤ next_at (map (λ (x : ℕ). 1) xs) n
ones_there xs zero one h = absurd (omega (arith, one))
ones_there [] (suc i) one h = absurd (omega (arith, h))
ones_there (x ∷ xs) (suc zero) one h = omega arith
ones_there (x ∷ xs) (suc (suc i)) one h = ones_there xs (suc i) (omega arith) (omega (arith, h))

-- each line has a number, and none was used
pub record AreUnused (nexts : Nexts) : Type 0 where
  pub least : (n : ℕ) → IsLine nexts.beats n → 1 ≤ next_at nexts.beats n
  pub most : (n : ℕ) → next_at nexts.beats n ≤ 1

pub unused_so : (nexts : Nexts) → nexts.beats ≡ map (λ (x : ℕ). 1) nexts.calls → AreUnused nexts
unused_so nexts e = record {
  least = λ n own. subst (λ bs. 1 ≤ next_at bs n) (sym e) (ones_there nexts.calls n own.first (subst (λ bs. n ≤ length bs) e own.last));
  most = λ n. subst (λ bs. next_at bs n ≤ 1) (sym e) (ones_count nexts.calls n);
}

no_beat : (from to : Nexts) (p : Posting) (ps : List Posting) → AreUnused from → AreUnused to → ArePosted from (p ∷ ps) to → (ticket_in p).beat ≡ true → ⊥
no_beat from to p ps f t a beat =
    let line = (ticket_in p).line in
    let own = beat_line from (ticket_in p) beat a.0 in
    let one = f.least line own in
    let used = next_set from.beats line (next_at from.beats line + 1) own in
    let rest = posted_rise (raised (ticket_in p).beat line from) to ps a.2 line in
    let after : next_at (with_next from.beats line) line ≤ next_at to.beats line = subst (λ b. next_at (raised b line from).beats line ≤ next_at to.beats line) beat rest in
    let end = t.most line in
    omega (arith, one, used, after, end)

unused_raised : (from : Nexts) (t : Ticket) → t.beat ≡ false → AreUnused from → AreUnused (raised t.beat t.line from)
unused_raised from t call f = subst (λ b. AreUnused (raised b t.line from)) (sym call) (record { least = f.least; most = f.most })

pub all_calls : (from to : Nexts) (ps : List Posting) → AreUnused from → AreUnused to → ArePosted from ps to → AreCalls ps
all_calls from to [] f t a = tt
all_calls from to (p ∷ ps) f t a = elim (cases_Bool (ticket_in p).beat) [
  | inl beat ↦ absurd (no_beat from to p ps f t a beat)
  | inr call ↦ (call, all_calls (raised (ticket_in p).beat (ticket_in p).line from) to ps (unused_raised from (ticket_in p) call f) t a.2)
]

-- What heartbeats post

beat_asks : (line : ℕ) (r : Request) (askers : List ℕ) → IsBeat r → askers ≡ [] → AskFor line r askers
beat_asks line (requests.TxnHeartBeat q) askers b e = e
beat_asks line (requests.GetRegion q) askers b e = e
beat_asks line (requests.GetRegionById q) askers b e = e
beat_asks line (requests.GetStore q) askers b e = e
beat_asks line (requests.GetAllStores q) askers b e = e
beat_asks line (requests.Members q) askers b e = e
beat_asks line r askers b e = absurd b

pub beat_askers : (p : Posting) → IsOfBeat p → HasAskers p
beat_askers (Send t to r askers) b = beat_asks t.line r askers b.0 b.1
beat_askers (Sleep t) b = tt

pub beat_lines : (count : ℕ) (p : Posting) → IsOfBeat p → AskersAre count p
beat_lines count (Send t to r askers) b = subst (λ (xs : List ℕ). All (λ n. n ≤ count) xs) (sym b.1) (All-nil _)
beat_lines count (Sleep t) b = tt

beat_next : (line : ℕ) (nexts : Nexts) (from : List ℕ) (p : Posting) → IsNextBeat line from p → IsNext (record nexts { beats = from }) (ticket_in p)
beat_next line nexts from p b = subst (λ (t : Ticket). IsNext (record nexts { beats = from }) t) (sym b.ticket) (record { first = b.own.first; last = b.own.last; number = refl })

pub beats_posted : (line : ℕ) (nexts : Nexts) (from to : List ℕ) (ps : List Posting) → AreBeats line from ps to → ArePosted (record nexts { beats = from }) ps (record nexts { beats = to })
beats_posted line nexts from to [] e = ap (λ bs. record nexts { beats = bs }) e
beats_posted line nexts from to (p ∷ ps) b = (
  beat_next line nexts from p b.0,
  beat_askers p b.0.beats,
  subst (λ (t : Ticket). ArePosted (raised t.beat t.line (record nexts { beats = from })) ps (record nexts { beats = to })) (sym b.0.ticket) (beats_posted line nexts (with_next from line) to ps b.1),
)

-- of each of them something holds that holds of what the heartbeat of the line posts
pub each_beat : (P : Posting → Type 0) (line : ℕ) (from to : List ℕ) (ps : List Posting) → ((p : Posting) → (ticket_in p).line ≡ line → IsOfBeat p → P p) → AreBeats line from ps to → All P ps
each_beat P line from to [] holds b = All-nil P
each_beat P line from to (p ∷ ps) holds b = All-cons P p ps (holds p (ap (λ (t : Ticket). t.line) b.0.ticket) b.0.beats) (each_beat P line (with_next from line) to ps holds b.1)
