-- What the steps of clients make of a sight, one after another.
use Rattle.std.proofs.Common.{◌≡◌, ◌≢◌, ◌⊎◌, inl, inr, ℕ, ◌-◌, ◌<◌, ◌≤◌, Bool, true, false, List, [], ◌∷◌, ◌++◌, length, map, set, nat_eq, Some, refl, sym, ap, ◌∙◌, subst, arith, length-set}
use Rattle.std.proofs.lemmas.Bool.Decides.{nat_tests}
use Rattle.std.proofs.lemmas.List.{map-append}
use Rattle.std.proofs.lemmas.List.Elements.{All-append, All-cons, All-nil, All-weaker, filter-append}
use Rattle.std.specs.List.{All, Any, filter}
use Rattle.txn_report.specs.declared.outcome.Outcome.{Outcome}
use Rattle.txn_report.specs.declared.outcome.Outcome.TheVariants.{Ok, Err, Unfinished, Done, Skipped}
use Rattle.txn_report.specs.declared.outcome.Payload.TheVariants.{Unit as Nothing, Number, Commit as Committed}
use Rattle.txn_side.specs.Sight.{AskEnds, ArePosted, AskersAre, CallEnds, Goes, Group, GroupsGo, HasAskers, IsAsk, IsNext, IsOut, LineGoes, Nexts, Sight, Stand, StaysOrEnds, client_at, is_live, line_count, lives, outcomes_of, raised, stand_at, still_open, ticket_in, with_stand}
use Rattle.txn_side.specs.Sight.Stand.{Asking, Calling, HasBegun, Idle, IsClient, Past, Working}
use Rattle.txn_side.specs.declared.turn.Ending.{Ending}
use Rattle.txn_side.specs.declared.turn.Posting.{Posting}
use Rattle.txn_clients.specs.Matching.{AreMatched, IsCallOf, IsLine}
use Rattle.txn_clients.proofs.Groups.{IsIn, groups_then, sent_in}
use Rattle.txn_clients.proofs.Stands.{called, line_of, same_line, stand_other, stand_same}

-- What ends, in two parts.

pub outcomes_append : (n : ℕ) (es fs : List Ending) → outcomes_of n (es ++ fs) ≡ outcomes_of n es ++ outcomes_of n fs
outcomes_append n es fs = ap (map (λ (e : Ending). e.outcome)) (filter-append (λ (e : Ending). nat_eq e.line n) es fs) ∙ map-append (λ (e : Ending). e.outcome) (filter (λ (e : Ending). nat_eq e.line n) es) (filter (λ (e : Ending). nat_eq e.line n) fs)

still_zero : (os : List Outcome) → still_open 0 os ≡ 0
still_zero [] = refl
still_zero (o ∷ os) = refl

still_then : (m : ℕ) (xs : List Outcome) (fs : List Ending) → still_open (still_open m xs) (outcomes_of (still_open m xs) fs) ≡ still_open m (xs ++ outcomes_of m fs)
still_then m [] fs = refl
still_then m (x ∷ xs) fs = still_zero (outcomes_of 0 fs)

-- What stands where a call of this client has ended.

abbrev pub HasSettled : ℕ → Stand → Type 0
HasSettled c s = (s ≡ Past c) ⊎ ((s ≡ HasBegun c 0) ⊎ (s ≡ Working c))

pub ask_settles : (c : ℕ) (b : Bool) (o : Outcome) (s : Stand) → AskEnds c b o s → HasSettled c s
ask_settles c true (Ok Nothing) s h = absurd h
ask_settles c true (Ok (Number v)) s h = inr (inl h)
ask_settles c true (Ok (Committed t)) s h = absurd h
ask_settles c true (Err e) s h = inl h
ask_settles c true Unfinished s h = absurd h
ask_settles c true Done s h = absurd h
ask_settles c true Skipped s h = absurd h
ask_settles c false (Ok Nothing) s h = absurd h
ask_settles c false (Ok (Number v)) s h = inl h
ask_settles c false (Ok (Committed t)) s h = absurd h
ask_settles c false (Err e) s h = inl h
ask_settles c false Unfinished s h = absurd h
ask_settles c false Done s h = absurd h
ask_settles c false Skipped s h = absurd h

working_or_past : (c : ℕ) (s : Stand) → (s ≡ Past c) ⊎ (s ≡ Working c) → HasSettled c s
working_or_past c s (inl e) = inl e
working_or_past c s (inr e) = inr (inr e)

pub call_settles : (c : ℕ) (b : Bool) (o : Outcome) (s : Stand) → CallEnds c b o s → HasSettled c s
call_settles c true (Ok Nothing) s h = absurd h
call_settles c true (Ok (Number v)) s h = absurd h
call_settles c true (Ok (Committed t)) s h = working_or_past c s h
call_settles c true (Err e) s h = inl h
call_settles c true Unfinished s h = absurd h
call_settles c true Done s h = absurd h
call_settles c true Skipped s h = absurd h
call_settles c false (Ok Nothing) s h = inl h
call_settles c false (Ok (Number v)) s h = absurd h
call_settles c false (Ok (Committed t)) s h = absurd h
call_settles c false (Err e) s h = inl h
call_settles c false Unfinished s h = absurd h
call_settles c false Done s h = absurd h
call_settles c false Skipped s h = absurd h

-- it stays so
settled_stays : (fs : List Ending) (n c : ℕ) (mid new : Stand) → HasSettled c mid → LineGoes fs n mid new → (outcomes_of n fs ≡ []) × (new ≡ mid)
settled_stays fs n c mid new (inl e) h = let k = subst (λ s. LineGoes fs n s new) e h in (k.0, k.1 ∙ sym e)
settled_stays fs n c mid new (inr (inl e)) h = let k = subst (λ s. LineGoes fs n s new) e h in (k.0, k.1 ∙ ap (HasBegun c) (still_zero (outcomes_of 0 fs)) ∙ sym e)
settled_stays fs n c mid new (inr (inr e)) h = let k = subst (λ s. LineGoes fs n s new) e h in (k.0, k.1 ∙ sym e)

ended_stays : (old : Stand) (Ends : Outcome → Stand → Type 0) (o : Outcome) (ys : List Outcome) (mid new : Stand) → Ends o mid → (ys ≡ []) × (new ≡ mid) → StaysOrEnds old Ends ((o ∷ []) ++ ys) new
ended_stays old Ends o ys mid new e k = subst (λ zs. StaysOrEnds old Ends ((o ∷ []) ++ zs) new) (sym k.0) (subst (λ s. Ends o s) (sym k.1) e)

-- One step after another.

asks_then : (fs : List Ending) (n c : ℕ) (b : Bool) (xs : List Outcome) (mid new : Stand) → StaysOrEnds (Asking c b) (AskEnds c b) xs mid → LineGoes fs n mid new → StaysOrEnds (Asking c b) (AskEnds c b) (xs ++ outcomes_of n fs) new
asks_then fs n c b [] mid new h k = subst (λ s. LineGoes fs n s new) h k
asks_then fs n c b (x ∷ []) mid new h k = ended_stays (Asking c b) (AskEnds c b) x (outcomes_of n fs) mid new h (settled_stays fs n c mid new (ask_settles c b x mid h) k)
asks_then fs n c b (x ∷ y ∷ zs) mid new h k = absurd h

calls_then : (fs : List Ending) (n c t : ℕ) (b : Bool) (xs : List Outcome) (mid new : Stand) → StaysOrEnds (Calling c t b) (CallEnds c b) xs mid → LineGoes fs n mid new → StaysOrEnds (Calling c t b) (CallEnds c b) (xs ++ outcomes_of n fs) new
calls_then fs n c t b [] mid new h k = subst (λ s. LineGoes fs n s new) h k
calls_then fs n c t b (x ∷ []) mid new h k = ended_stays (Calling c t b) (CallEnds c b) x (outcomes_of n fs) mid new h (settled_stays fs n c mid new (call_settles c b x mid h) k)
calls_then fs n c t b (x ∷ y ∷ zs) mid new h k = absurd h

-- what does not wait stays as it is
quiet_then : (es fs : List Ending) (n : ℕ) (old mid new : Stand) → (outcomes_of n es ≡ []) × (mid ≡ old) → (outcomes_of n fs ≡ []) × (new ≡ old) → (outcomes_of n (es ++ fs) ≡ []) × (new ≡ old)
quiet_then es fs n old mid new h k = (outcomes_append n es fs ∙ ap (λ ys. ys ++ outcomes_of n fs) h.0 ∙ k.0, k.1)

line_then : (es fs : List Ending) (n : ℕ) (old mid new : Stand) → LineGoes es n old mid → LineGoes fs n mid new → LineGoes (es ++ fs) n old new
line_then es fs n Idle mid new h k = let q = quiet_then es fs n Idle mid new h (subst (λ s. LineGoes fs n s new) h.1 k) in (q.0, q.1)
line_then es fs n (IsClient c) mid new h k = let q = quiet_then es fs n (IsClient c) mid new h (subst (λ s. LineGoes fs n s new) h.1 k) in (q.0, q.1)
line_then es fs n (Asking c b) mid new h k = subst (λ os. StaysOrEnds (Asking c b) (AskEnds c b) os new) (sym (outcomes_append n es fs)) (asks_then fs n c b (outcomes_of n es) mid new h k)
line_then es fs n (HasBegun c m) mid new h k =
    let q : LineGoes fs n (HasBegun c (still_open m (outcomes_of m es))) new = subst (λ s. LineGoes fs n s new) h.1 k in
    (outcomes_append n es fs ∙ ap (λ ys. ys ++ outcomes_of n fs) h.0 ∙ q.0, q.1 ∙ ap (HasBegun c) (still_then m (outcomes_of m es) fs ∙ ap (still_open m) (sym (outcomes_append m es fs))))
line_then es fs n (Calling c x b) mid new h k = subst (λ os. StaysOrEnds (Calling c x b) (CallEnds c b) os new) (sym (outcomes_append n es fs)) (calls_then fs n c x b (outcomes_of n es) mid new h k)
line_then es fs n (Past c) mid new h k = let q = quiet_then es fs n (Past c) mid new h (subst (λ s. LineGoes fs n s new) h.1 k) in (q.0, q.1)
line_then es fs n (Working c) mid new h k = let q = quiet_then es fs n (Working c) mid new h (subst (λ s. LineGoes fs n s new) h.1 k) in (q.0, q.1)

posted_then : (from mid to : Nexts) (ps qs : List Posting) → ArePosted from ps mid → ArePosted mid qs to → ArePosted from (ps ++ qs) to
posted_then from mid to [] qs h k = subst (λ ns. ArePosted ns qs to) h k
posted_then from mid to (p ∷ ps) qs h k = (h.0, h.1, posted_then (raised (ticket_in p).beat (ticket_in p).line from) mid to ps qs h.2 k)

-- A line keeps its client.

settled_client : (c : ℕ) (s : Stand) → HasSettled c s → client_at s ≡ Some c
settled_client c s (inl e) = ap client_at e
settled_client c s (inr (inl e)) = ap client_at e
settled_client c s (inr (inr e)) = ap client_at e

ask_client : (c : ℕ) (b : Bool) (xs : List Outcome) (new : Stand) → StaysOrEnds (Asking c b) (AskEnds c b) xs new → client_at new ≡ Some c
ask_client c b [] new h = ap client_at h
ask_client c b (x ∷ []) new h = settled_client c new (ask_settles c b x new h)
ask_client c b (x ∷ y ∷ zs) new h = absurd h

call_client : (c t : ℕ) (b : Bool) (xs : List Outcome) (new : Stand) → StaysOrEnds (Calling c t b) (CallEnds c b) xs new → client_at new ≡ Some c
call_client c t b [] new h = ap client_at h
call_client c t b (x ∷ []) new h = settled_client c new (call_settles c b x new h)
call_client c t b (x ∷ y ∷ zs) new h = absurd h

client_kept : (es : List Ending) (n : ℕ) (old new : Stand) → LineGoes es n old new → client_at new ≡ client_at old
client_kept es n Idle new h = ap client_at h.1
client_kept es n (IsClient c) new h = ap client_at h.1
client_kept es n (Asking c b) new h = ask_client c b (outcomes_of n es) new h
client_kept es n (HasBegun c m) new h = ap client_at h.1
client_kept es n (Calling c x b) new h = call_client c x b (outcomes_of n es) new h
client_kept es n (Past c) new h = ap client_at h.1
client_kept es n (Working c) new h = ap client_at h.1

-- and a step takes no client away
pub lives_on : {ps : List Posting} {es : List Ending} (old new : Sight) (line : ℕ) → Goes ps es old new → is_live new line ≡ is_live old line
lives_on {es = es} old new line g = ap (λ cs. lives cs (client_at (stand_at new.stands line))) g.crashed ∙ ap (lives old.crashed) (client_kept es line (stand_at old.stands line) (stand_at new.stands line) (g.lines line))

-- one step after another is a step
pub goes_then : (ps qs : List Posting) (es fs : List Ending) (old mid new : Sight) → Goes ps es old mid → Goes qs fs mid new → Goes (ps ++ qs) (es ++ fs) old new
goes_then ps qs es fs old mid new g k = record {
  crashed = k.crashed ∙ g.crashed;
  count = k.count ∙ g.count;
  lines = λ n. line_then es fs n (stand_at old.stands n) (stand_at mid.stands n) (stand_at new.stands n) (g.lines n) (k.lines n);
  live = All-append (λ (e : Ending). is_live old e.line ≡ true) es fs g.live
      (All-weaker (λ (e : Ending). is_live mid e.line ≡ true) (λ (e : Ending). is_live old e.line ≡ true) (λ e h. sym (lives_on old mid e.line g) ∙ h) fs k.live);
  posting = All-append (λ (p : Posting). is_live old (ticket_in p).line ≡ true) ps qs g.posting
      (All-weaker (λ (p : Posting). is_live mid (ticket_in p).line ≡ true) (λ (p : Posting). is_live old (ticket_in p).line ≡ true) (λ p h. sym (lives_on old mid (ticket_in p).line g) ∙ h) qs k.posting);
  numbers = posted_then old.nexts mid.nexts new.nexts ps qs g.numbers k.numbers;
  askers = All-append (AskersAre (line_count old)) ps qs g.askers (subst (λ n. All (AskersAre n) qs) g.count k.askers);
  groups = groups_then ps qs old mid new g.groups k.groups;
}

-- Steps by themselves.

stand_quiet : (n : ℕ) (s : Stand) → LineGoes [] n s s
stand_quiet n Idle = (refl, refl)
stand_quiet n (IsClient c) = (refl, refl)
stand_quiet n (Asking c b) = refl
stand_quiet n (HasBegun c m) = (refl, refl)
stand_quiet n (Calling c x b) = refl
stand_quiet n (Past c) = (refl, refl)
stand_quiet n (Working c) = (refl, refl)

none_posted : (s : Sight) → All (λ (p : Posting). is_live s (ticket_in p).line ≡ true) []
none_posted s = All-nil (λ (p : Posting). is_live s (ticket_in p).line ≡ true)

none_ask : (s : Sight) → All (AskersAre (line_count s)) []
none_ask s = All-nil (AskersAre (line_count s))

-- nothing is done
pub goes_quiet : (s : Sight) → Goes [] [] s s
goes_quiet s = record {
  crashed = refl;
  count = refl;
  lines = λ n. stand_quiet n (stand_at s.stands n);
  live = All-nil (λ (e : Ending). is_live s e.line ≡ true);
  posting = none_posted s;
  numbers = refl;
  askers = none_ask s;
  groups = λ g out. inl out;
}

-- a request for timestamps is out no more
pub goes_left : (old new : Sight) → new.crashed ≡ old.crashed → new.stands ≡ old.stands → new.nexts ≡ old.nexts → GroupsGo [] old new → Goes [] [] old new
goes_left old new crashed stands nexts groups = record {
  crashed = crashed;
  count = ap length stands;
  lines = λ n. subst (λ ss. LineGoes [] n (stand_at old.stands n) (stand_at ss n)) (sym stands) (stand_quiet n (stand_at old.stands n));
  live = All-nil (λ (e : Ending). is_live old e.line ≡ true);
  posting = none_posted old;
  numbers = nexts;
  askers = none_ask old;
  groups = groups;
}

-- one is posted, and the request of its ticket may be out
goes_one : (p : Posting) (old new : Sight) → is_live old (ticket_in p).line ≡ true → IsNext old.nexts (ticket_in p) → HasAskers p → AskersAre (line_count old) p
    → new.crashed ≡ old.crashed → new.stands ≡ old.stands → new.nexts ≡ raised (ticket_in p).beat (ticket_in p).line old.nexts → GroupsGo (p ∷ []) old new → Goes (p ∷ []) [] old new
goes_one p old new live next askers lines crashed stands nexts groups = record {
  crashed = crashed;
  count = ap length stands;
  lines = λ n. subst (λ ss. LineGoes [] n (stand_at old.stands n) (stand_at ss n)) (sym stands) (stand_quiet n (stand_at old.stands n));
  live = All-nil (λ (e : Ending). is_live old e.line ≡ true);
  posting = All-cons (λ (p : Posting). is_live old (ticket_in p).line ≡ true) p [] live (none_posted old);
  numbers = (next, askers, nexts);
  askers = All-cons (AskersAre (line_count old)) p [] lines (none_ask old);
  groups = groups;
}

-- one is posted
pub goes_posted : (p : Posting) (s : Sight) → is_live s (ticket_in p).line ≡ true → IsNext s.nexts (ticket_in p) → HasAskers p → AskersAre (line_count s) p → Goes (p ∷ []) [] s (record s { nexts = raised (ticket_in p).beat (ticket_in p).line s.nexts })
goes_posted p s live next askers lines = goes_one p s (record s { nexts = raised (ticket_in p).beat (ticket_in p).line s.nexts }) live next askers lines refl refl refl (λ g out. inl out)

-- a client's request for timestamps goes out
pub goes_sent : (p : Posting) (h : Group) (client : ℕ) (s : Sight) → is_live s (ticket_in p).line ≡ true → IsNext s.nexts (ticket_in p) → HasAskers p → AskersAre (line_count s) p → IsAsk h p → client < length s.groups
    → Goes (p ∷ []) [] s (record s { groups = set s.groups client (Some h); nexts = raised (ticket_in p).beat (ticket_in p).line s.nexts })
goes_sent p h client s live next askers lines ask there =
    goes_one p s (record s { groups = set s.groups client (Some h); nexts = raised (ticket_in p).beat (ticket_in p).line s.nexts }) live next askers lines refl refl refl (λ g out. by g (sent_in s.groups client h g there out))
  where
    by : (g : Group) → IsIn s.groups g ⊎ (h ≡ g) → IsOut s g ⊎ Any (IsAsk g) (p ∷ [])
    by g (inl was) = inl was
    by g (inr same) = inr (0, p, omega arith, refl, subst (λ x. IsAsk x p) same ask)

abbrev ending : ℕ → Outcome → Ending
ending line o = record { line = line; outcome = o }

ends_here : (line : ℕ) (o : Outcome) → outcomes_of line (ending line o ∷ []) ≡ o ∷ []
ends_here line o = let e : nat_eq line line ≡ true = grind (arith, nat_tests) in rw e refl

ends_there : (line n : ℕ) (o : Outcome) → n ≢ line → outcomes_of n (ending line o ∷ []) ≡ []
ends_there line n o apart = let e : nat_eq line n ≡ false = grind (arith, nat_tests) in rw e refl

-- where another line ends, for which a transaction does not wait, everything stays
stand_apart : (line n : ℕ) (o : Outcome) (s : Stand) → n ≢ line → ((c m : ℕ) → s ≡ HasBegun c m → m ≢ line) → LineGoes (ending line o ∷ []) n s s
stand_apart line n o Idle apart h = (ends_there line n o apart, refl)
stand_apart line n o (IsClient c) apart h = (ends_there line n o apart, refl)
stand_apart line n o (Asking c b) apart h = subst (λ os. StaysOrEnds (Asking c b) (AskEnds c b) os (Asking c b)) (sym (ends_there line n o apart)) refl
stand_apart line n o (HasBegun c m) apart h = (ends_there line n o apart, ap (HasBegun c) (ap (still_open m) (sym (ends_there line m o (h c m refl)))))
stand_apart line n o (Calling c x b) apart h = subst (λ os. StaysOrEnds (Calling c x b) (CallEnds c b) os (Calling c x b)) (sym (ends_there line n o apart)) refl
stand_apart line n o (Past c) apart h = (ends_there line n o apart, refl)
stand_apart line n o (Working c) apart h = (ends_there line n o apart, refl)

one_live : (s : Sight) (line : ℕ) (o : Outcome) → is_live s line ≡ true → All (λ (e : Ending). is_live s e.line ≡ true) (ending line o ∷ [])
one_live s line o h = All-cons (λ (e : Ending). is_live s e.line ≡ true) (ending line o) [] h (All-nil (λ (e : Ending). is_live s e.line ≡ true))

-- an ask ends
pub goes_asked : (s : Sight) (line c : ℕ) (b : Bool) (o : Outcome) (new : Stand) → stand_at s.stands line ≡ Asking c b → is_live s line ≡ true → AreMatched s.stands → AskEnds c b o new
    → Goes [] (ending line o ∷ []) s (with_stand line new s)
goes_asked s line c b o new asks live matched ends = record {
  crashed = refl;
  count = length-set s.stands (line - 1) new;
  lines = λ n. by n (same_line line n);
  live = one_live s line o live;
  posting = none_posted s;
  numbers = refl;
  askers = none_ask s;
  groups = λ g out. inl out;
}
  where
    own : IsLine s.stands line
    own = line_of s.stands line (λ i. no (sym asks ∙ i))
      where
        no : Asking c b ≡ Idle → ⊥
        no q = cc

    here : LineGoes (ending line o ∷ []) line (Asking c b) new
    here = subst (λ os. StaysOrEnds (Asking c b) (AskEnds c b) os new) (sym (ends_here line o)) ends

    by : (n : ℕ) → (n ≡ line) ⊎ (n ≢ line) → LineGoes (ending line o ∷ []) n (stand_at s.stands n) (stand_at (set s.stands (line - 1) new) n)
    by n (inl same) = subst (λ k. LineGoes (ending line o ∷ []) k (stand_at s.stands k) (stand_at (set s.stands (line - 1) new) k)) (sym same)
        (subst (λ t. LineGoes (ending line o ∷ []) line t (stand_at (set s.stands (line - 1) new) line)) (sym asks)
        (subst (λ t. LineGoes (ending line o ∷ []) line (Asking c b) t) (sym (stand_same s.stands line new own)) here))
    by n (inr apart) = subst (λ t. LineGoes (ending line o ∷ []) n (stand_at s.stands n) t) (sym (stand_other s.stands line n new own.first apart))
        (stand_apart line n o (stand_at s.stands n) apart (λ d m e k. waits d m e k (matched n d m e)))
      where
        waits : (d m : ℕ) → stand_at s.stands n ≡ HasBegun d m → m ≡ line → (m ≡ 0) ⊎ IsCallOf s.stands n m → ⊥
        waits d m e k (inl z) = let f = own.first in omega (arith, f, z, k)
        waits d m e k (inr (f, g, q)) = no (sym asks ∙ ap (stand_at s.stands) (sym k) ∙ q)
          where
            no : Asking c b ≡ Calling f n g → ⊥
            no r = cc

-- a call of a transaction ends
pub goes_called : (s : Sight) (line x c d : ℕ) (b : Bool) (o : Outcome) (new : Stand) → stand_at s.stands line ≡ Calling c x b → stand_at s.stands x ≡ HasBegun d line → is_live s line ≡ true → AreMatched s.stands → CallEnds c b o new
    → Goes [] (ending line o ∷ []) s (with_stand line new (with_stand x (HasBegun d 0) s))
goes_called s line x c d b o new calls waits live matched ends = record {
  crashed = refl;
  count = length-set (set s.stands (x - 1) (HasBegun d 0)) (line - 1) new ∙ length-set s.stands (x - 1) (HasBegun d 0);
  lines = λ n. by n (same_line line n);
  live = one_live s line o live;
  posting = none_posted s;
  numbers = refl;
  askers = none_ask s;
  groups = λ g out. inl out;
}
  where
    own : IsLine s.stands line
    own = line_of s.stands line (λ i. no (sym calls ∙ i))
      where
        no : Calling c x b ≡ Idle → ⊥
        no q = cc

    begun : IsLine s.stands x
    begun = line_of s.stands x (λ i. no (sym waits ∙ i))
      where
        no : HasBegun d line ≡ Idle → ⊥
        no q = cc

    mid : List Stand
    mid = set s.stands (x - 1) (HasBegun d 0)

    own_mid : IsLine mid line
    own_mid = record { first = own.first; last = subst (λ n. line ≤ n) (sym (length-set s.stands (x - 1) (HasBegun d 0))) own.last }

    far : x ≢ line
    far e = no (sym calls ∙ ap (stand_at s.stands) (sym e) ∙ waits)
      where
        no : Calling c x b ≡ HasBegun d line → ⊥
        no q = cc

    set_both : List Stand
    set_both = set mid (line - 1) new

    at_x : stand_at set_both x ≡ HasBegun d 0
    at_x = stand_other mid line x new own.first far ∙ stand_same s.stands x (HasBegun d 0) begun

    here : LineGoes (ending line o ∷ []) line (Calling c x b) new
    here = subst (λ os. StaysOrEnds (Calling c x b) (CallEnds c b) os new) (sym (ends_here line o)) ends

    there : LineGoes (ending line o ∷ []) x (HasBegun d line) (HasBegun d 0)
    there = (ends_there line x o far, ap (HasBegun d) (ap (still_open line) (sym (ends_here line o))))

    by : (n : ℕ) → (n ≡ line) ⊎ (n ≢ line) → LineGoes (ending line o ∷ []) n (stand_at s.stands n) (stand_at set_both n)
    by n (inl same) = subst (λ k. LineGoes (ending line o ∷ []) k (stand_at s.stands k) (stand_at set_both k)) (sym same)
        (subst (λ t. LineGoes (ending line o ∷ []) line t (stand_at set_both line)) (sym calls)
        (subst (λ t. LineGoes (ending line o ∷ []) line (Calling c x b) t) (sym (stand_same mid line new own_mid)) here))
    by n (inr apart) = at (same_line x n)
      where
        at : (n ≡ x) ⊎ (n ≢ x) → LineGoes (ending line o ∷ []) n (stand_at s.stands n) (stand_at set_both n)
        at (inl same) = subst (λ k. LineGoes (ending line o ∷ []) k (stand_at s.stands k) (stand_at set_both k)) (sym same)
            (subst (λ t. LineGoes (ending line o ∷ []) x t (stand_at set_both x)) (sym waits)
            (subst (λ t. LineGoes (ending line o ∷ []) x (HasBegun d line) t) (sym at_x) there))
        at (inr off) = subst (λ t. LineGoes (ending line o ∷ []) n (stand_at s.stands n) t) (sym (stand_other mid line n new own.first apart ∙ stand_other s.stands x n (HasBegun d 0) begun.first off))
            (stand_apart line n o (stand_at s.stands n) apart (λ f m e k. others f m e k (matched n f m e)))
          where
            others : (f m : ℕ) → stand_at s.stands n ≡ HasBegun f m → m ≡ line → (m ≡ 0) ⊎ IsCallOf s.stands n m → ⊥
            others f m e k (inl z) = let one = own.first in omega (arith, one, z, k)
            others f m e k (inr (g, h, q)) = off (sym (called c g x n b h (sym calls ∙ ap (stand_at s.stands) (sym k) ∙ q)))
