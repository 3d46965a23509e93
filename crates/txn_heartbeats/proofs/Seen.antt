-- What a machine sees of clients and their heartbeats in a step.
use Rattle.std.proofs.Common.{◌≡◌, inl, inr, ℕ, zero, suc, ◌-◌, ◌<◌, ◌≤◌, Bool, true, false, List, [], ◌++◌, length, set, Option, Some, None, refl, sym, ap, ◌∙◌, subst, arith}
use Rattle.std.proofs.lemmas.Bool.{and_parts, cases_Bool, cases_lt}
use Rattle.std.proofs.lemmas.List.{length-append, length-set, get_or_append_left}
use Rattle.std.proofs.lemmas.List.Elements.{All-append, All-nil, All-weaker}
use Rattle.std.specs.List.{All, Any}
use Rattle.std.specs.Prelude.{slice_index_or}
use Rattle.txn_kv.specs.declared.reply.Reply.{Reply}
use Rattle.txn_kv.specs.declared.ticket.Ticket.{Ticket}
use Rattle.txn_side.specs.Sight.{Acts, Asks, AskersAre, EndsAlone, Goes, IsAsk, IsGiven, LineGoes, Names, NoneGiven, Sight, Stand, client_at, commits, is_free, is_live, line_count, lives, stand_at, ticket_in, with_stand}
use Rattle.txn_side.specs.Sight.Stand.{Asking, Calling, HasBegun, Idle, IsClient, Past, Working}
use Rattle.txn_side.specs.Steps.{GivesTo, HearsOf}
use Rattle.txn_side.specs.Waiting.{Awaited, WaitsOn}
use Rattle.txn_side.specs.Waiting.Awaited.{ReplyTo}
use Rattle.txn_lines.specs.declared.act.Act.{Act}
use Rattle.txn_side.specs.declared.coming.Coming.{Coming}
use Rattle.txn_side.specs.declared.coming.Coming.TheVariants as coming
use Rattle.txn_side.specs.declared.turn.Ending.{Ending}
use Rattle.txn_side.specs.declared.turn.Posting.{Posting}
use Rattle.txn_side.specs.declared.turn.Turn.{Turn}
use Rattle.txn_heartbeats.specs.Beating.{AreBeats, IsLine, with_beats}
use Rattle.txn_heartbeats.proofs.Lists.{at_same, at_past}
use Rattle.txn_heartbeats.proofs.Numbers.{AreCalls, AreUnused, all_calls, beat_lines, beats_posted, calls_posted, each_beat, posted_append}

two : true ≡ false → ⊥
two q = cc

pub any_left : {X : Type 0} (P : X → Type 0) (xs ys : List X) → Any P xs → Any P (xs ++ ys)
any_left P xs ys (k, x, within, there, holds) = let long = length-append xs ys in (k, x, omega (arith, within, long), get_or_append_left xs ys x k within ∙ there, holds)

-- Steps of the clients alone

pub goes_calls : (s t : Sight) (ps : List Posting) (es : List Ending) → AreUnused s.nexts → AreUnused t.nexts → Goes ps es s t → AreCalls ps
goes_calls s t ps es f g goes = all_calls s.nexts t.nexts ps f g goes.numbers

module _ (beats : List ℕ) where
  pub goes_beside : (s t : Sight) (ps : List Posting) (es : List Ending) → AreUnused s.nexts → AreUnused t.nexts → Goes ps es s t → Goes ps es (with_beats beats s) (with_beats beats t)
  goes_beside s t ps es f g goes = record {
    crashed = goes.crashed;
    count = goes.count;
    lines = goes.lines;
    live = goes.live;
    posting = goes.posting;
    numbers = calls_posted beats s.nexts t.nexts ps (goes_calls s t ps es f g goes) goes.numbers;
    askers = goes.askers;
    groups = goes.groups;
  }

  pub asks_beside : (begins : Bool) (client : ℕ) (s t : Sight) (turn : Option Turn) → AreUnused s.nexts → AreUnused t.nexts → Asks begins client s t turn → Asks begins client (with_beats beats s) (with_beats beats t) turn
  asks_beside begins client s t None f g a = (a.0, ap (with_beats beats) a.1)
  asks_beside begins client s t (Some turn) f g a = (a.0, a.1, a.2, goes_beside (with_stand (line_count s) (Asking a.0 begins) s) t turn.posted.items turn.ended.items f g a.3, a.4, a.5)

  pub acts_beside : (act : Act) (x : ℕ) (s t : Sight) (turn : Option Turn) → AreUnused s.nexts → AreUnused t.nexts → Acts act x s t turn → Acts act x (with_beats beats s) (with_beats beats t) turn
  acts_beside act x s t None f g a = (a.0, ap (with_beats beats) a.1)
  acts_beside act x s t (Some turn) f g a = (
    a.0,
    a.1,
    a.2,
    goes_beside (with_stand (line_count s) (Calling a.0 x (commits act)) (with_stand x (HasBegun a.0 (line_count s)) s)) t turn.posted.items turn.ended.items f g a.3,
    a.4,
    a.5,
  )

given_one : (s : Sight) (beats : List ℕ) (t : Ticket) (o : Reply) (line version : ℕ) → IsGiven s t o line version → IsGiven (with_beats beats s) t o line version
given_one s beats t o line version g = record { group = g.group; out = g.out; ticket = g.ticket; gives = g.gives }

pub given_beside : (s : Sight) (beats : List ℕ) (t : Ticket) (what : Coming) (es : List Ending) → All (Names (GivesTo s t what)) es → All (Names (GivesTo (with_beats beats s) t what)) es
given_beside s beats t (coming.Reply o) es all = All-weaker (Names (IsGiven s t o)) (Names (IsGiven (with_beats beats s) t o)) (λ e names version is. given_one s beats t o e.line version (names version is)) es all
given_beside s beats t coming.Lost es all = all
given_beside s beats t coming.Slept es all = all

-- how many lines there are

pub asks_count : (begins : Bool) (client : ℕ) (s t : Sight) (turn : Option Turn) → Asks begins client s t turn → line_count t ≡ line_count s
asks_count begins client s t None a = ap line_count a.1
asks_count begins client s t (Some turn) a = a.3.count ∙ length-set s.stands (line_count s - 1) (Asking a.0 begins)

pub acts_count : (act : Act) (x : ℕ) (s t : Sight) (turn : Option Turn) → Acts act x s t turn → line_count t ≡ line_count s
acts_count act x s t None a = ap line_count a.1
acts_count act x s t (Some turn) a =
    a.3.count ∙ length-set (set s.stands (x - 1) (HasBegun a.0 (line_count s))) (line_count s - 1) (Calling a.0 x (commits act)) ∙ length-set s.stands (x - 1) (HasBegun a.0 (line_count s))

-- A heartbeat posts

line_stays : (n : ℕ) (x : Stand) → LineGoes [] n x x
line_stays n Idle = (refl, refl)
line_stays n (IsClient c) = (refl, refl)
line_stays n (Asking c b) = refl
line_stays n (HasBegun c m) = (refl, refl)
line_stays n (Calling c x b) = refl
line_stays n (Past c) = (refl, refl)
line_stays n (Working c) = (refl, refl)

-- a line that has a client is a line
stand_set : (stands : List Stand) (n : ℕ) (x : Stand) → 1 ≤ n → n ≤ length stands → stand_at (set stands (n - 1) x) n ≡ x
stand_set stands zero x one h = absurd (omega (arith, one))
stand_set stands (suc i) x one h = at_same Idle stands (suc i) x one h

stand_past : (stands : List Stand) (n : ℕ) → length stands < n → stand_at stands n ≡ Idle
stand_past stands zero h = refl
stand_past stands (suc i) h = at_past Idle stands (suc i) h

pub live_line : (s : Sight) (beats : List ℕ) (n : ℕ) → length beats ≡ line_count s → is_live s n ≡ true → IsLine beats n
live_line s beats zero even live = absurd (two (sym live))
live_line s beats (suc i) even live = record { first = omega arith; last = within }
  where
    dead : length s.stands < suc i → ⊥
    dead past = two (sym live ∙ ap (λ x. lives s.crashed (client_at x)) (stand_past s.stands (suc i) past))

    within : suc i ≤ length beats
    within = elim (cases_lt (length s.stands) (suc i)) [ inl past ↦ absurd (dead past) | inr h ↦ omega (arith, even, h) ]

pub goes_beating : (line : ℕ) (s : Sight) (from to : List ℕ) (ps : List Posting) → AreBeats line from ps to → (is_live s line ≡ false → ps ≡ []) → Goes ps [] (with_beats from s) (with_beats to s)
goes_beating line s from to ps beats dead = record {
  crashed = refl;
  count = refl;
  lines = λ n. line_stays n (stand_at s.stands n);
  live = All-nil _;
  posting = posting_so;
  numbers = beats_posted line s.nexts from to ps beats;
  askers = each_beat (AskersAre (line_count s)) line from to ps (λ p own b. beat_lines (line_count s) p b) beats;
  groups = λ g out. inl out;
}
  where
    posting_so : All (λ (p : Posting). is_live s (ticket_in p).line ≡ true) ps
    posting_so = elim (cases_Bool (is_live s line)) [
      | inl live ↦ each_beat (λ (p : Posting). is_live s (ticket_in p).line ≡ true) line from to ps (λ p own b. ap (is_live s) own ∙ live) beats
      | inr gone ↦ subst (All (λ (p : Posting). is_live s (ticket_in p).line ≡ true)) (sym (dead gone)) (All-nil _)
    ]

-- after a step of the clients
pub goes_then_beats : (line : ℕ) (old s : Sight) (from to : List ℕ) (ps qs : List Posting) (es : List Ending) → is_live old line ≡ true → AreBeats line from qs to → Goes ps es old (with_beats from s) → Goes (ps ++ qs) es old (with_beats to s)
goes_then_beats line old s from to ps qs es live beats goes = record {
  crashed = goes.crashed;
  count = goes.count;
  lines = goes.lines;
  live = goes.live;
  posting = All-append (λ (p : Posting). is_live old (ticket_in p).line ≡ true) ps qs goes.posting (each_beat (λ (p : Posting). is_live old (ticket_in p).line ≡ true) line from to qs (λ p own b. ap (is_live old) own ∙ live) beats);
  numbers = posted_append old.nexts (record s.nexts { beats = from }) (record s.nexts { beats = to }) ps qs goes.numbers (beats_posted line s.nexts from to qs beats);
  askers = All-append (AskersAre (line_count old)) ps qs goes.askers (each_beat (AskersAre (line_count old)) line from to qs (λ p own b. beat_lines (line_count old) p b) beats);
  groups = λ g out. elim (goes.groups g out) [ inl o ↦ inl o | inr a ↦ inr (any_left (IsAsk g) ps qs a) ];
}

-- the newest line, which calls, is live where its transaction is free
called_live : (s : Sight) (act : Act) (c x : ℕ) → 1 ≤ line_count s → stand_at s.stands x ≡ HasBegun c 0 → is_free s x ≡ true
    → is_live (with_stand (line_count s) (Calling c x (commits act)) (with_stand x (HasBegun c (line_count s)) s)) (line_count s) ≡ true
called_live s act c x one at free = ap (λ y. lives s.crashed (client_at y)) there ∙ live
  where
    there : stand_at (set (set s.stands (x - 1) (HasBegun c (line_count s))) (line_count s - 1) (Calling c x (commits act))) (line_count s) ≡ Calling c x (commits act)
    there = stand_set (set s.stands (x - 1) (HasBegun c (line_count s))) (line_count s) (Calling c x (commits act)) one (let e = length-set s.stands (x - 1) (HasBegun c (line_count s)) in omega (arith, e))

    live : lives s.crashed (Some c) ≡ true
    live = subst (λ y. lives s.crashed (client_at y) ≡ true) at (and_parts _ _ free).0

pub acts_then_beats : (act : Act) (x : ℕ) (old s : Sight) (from to : List ℕ) (turn later : Turn) (qs : List Posting) → 1 ≤ line_count old → later.posted.items ≡ turn.posted.items ++ qs → later.ended ≡ turn.ended → AreBeats (line_count old) from qs to
    → Acts act x old (with_beats from s) (Some turn) → Acts act x old (with_beats to s) (Some later)
acts_then_beats act x old s from to turn later qs one pushed ended beats a = (
  a.0,
  a.1,
  a.2,
  subst (λ ps. Goes ps later.ended.items called (with_beats to s)) (sym pushed) (subst (λ v. Goes (turn.posted.items ++ qs) v.items called (with_beats to s)) (sym ended) (goes_then_beats (line_count old) called s from to turn.posted.items qs turn.ended.items (called_live old act a.0 x one a.1 a.2) beats a.3)),
  subst (λ v. EndsAlone (line_count old) v.items) (sym ended) a.4,
  subst (λ v. All (Names NoneGiven) v.items) (sym ended) a.5,
)
  where
    called : Sight
    called = with_stand (line_count old) (Calling a.0 x (commits act)) (with_stand x (HasBegun a.0 (line_count old)) old)

-- What is waited for

pub waits_longer : (Hears : ℕ → Awaited → Type 0) (ps qs : List Posting) (was is : ℕ → Awaited → Type 0) (s t : Sight) (old new : List ℕ) → WaitsOn Hears ps was is s t → WaitsOn Hears (ps ++ qs) was is (with_beats old s) (with_beats new t)
waits_longer Hears ps qs was is s t old new w = record {
  lines = λ n a x. elim (w.lines n a x) [ inl h ↦ inl h | inr h ↦ inr (any_left _ ps qs h) ];
  groups = λ g out. elim (w.groups g out) [ inl h ↦ inl h | inr h ↦ inr (any_left (IsAsk g) ps qs h) ];
}

-- what comes for a heartbeat is waited for by no call

beat_deaf : (t : Ticket) (what : Coming) → t.beat ≡ true → (n : ℕ) (a : Awaited) → HearsOf t what n a → ⊥
beat_deaf t (coming.Reply o) beat n a h = two (sym beat ∙ h.0)
beat_deaf t coming.Lost beat n a h = two (sym beat ∙ h.0)
beat_deaf t coming.Slept beat n a h = two (sym beat ∙ h.0)

pub waits_deaf : (t : Ticket) (what : Coming) (ps : List Posting) (was is : ℕ → Awaited → Type 0) (old new : Sight) → t.beat ≡ true → new.groups ≡ old.groups → ((n : ℕ) (a : Awaited) → is n a → was n a) → WaitsOn (HearsOf t what) ps was is old new
waits_deaf t what ps was is old new beat same still = record {
  lines = λ n a x. inl (still n a x, beat_deaf t what beat n a);
  groups = λ g out. inl (subst (λ gs. (c : ℕ) × (slice_index_or gs c None ≡ Some g)) same out, beat_deaf t what beat g.ticket.line (ReplyTo g.ticket.number));
}
