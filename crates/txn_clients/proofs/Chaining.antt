-- Parts of a step, each of which leads on from the history of the one before.
use Rattle.std.proofs.Common.{◌≡◌, inl, inr, ℕ, Bool, true, false, List, [], ◌∷◌, ◌++◌, nat_eq, refl, sym, ap, ◌∙◌, subst, arith, append-nil, append_assoc}
use Rattle.std.proofs.lemmas.Bool.Decides.{nat_tests}
use Rattle.std.proofs.lemmas.List.Elements.{All-append, All-cons, All-head, All-nil, All-tail, All-weaker}
use Rattle.std.specs.List.{All}
use Rattle.txn_kv.specs.declared.request.Request.{Request}
use Rattle.txn_kv.specs.declared.ticket.Ticket.{Ticket}
use Rattle.txn_history.specs.Among.{IsAmong}
use Rattle.txn_history.specs.Event.{Event, Has}
use Rattle.txn_history.specs.Event.Event.{Lost}
use Rattle.txn_history.specs.Posted.{Within, Within-refl, Within-trans}
use Rattle.txn_commit.specs.Ways.{Ways}
use Rattle.txn_report.specs.declared.outcome.Outcome.{Outcome}
use Rattle.txn_side.specs.Doubt.{CallOf, itself}
use Rattle.txn_side.specs.Arising.{answered_at, with_posting, with_postings}
use Rattle.txn_side.specs.Sight.{AskEnds, CallEnds, LineGoes, Stand, StaysOrEnds, outcomes_of, stand_at}
use Rattle.txn_side.specs.Sight.Stand.{Asking, Calling, HasBegun, Idle, IsClient, Past, Working}
use Rattle.txn_side.specs.declared.turn.Ending.{Ending}
use Rattle.txn_side.specs.declared.turn.Posting.{Posting}
use Rattle.txn_trace.specs.Seeing.{seen}
use Rattle.txn_tso.specs.Oracle.{Answer as Answered}
use Rattle.txn_clients.specs.Arising.{Anyhow, Arisen, EndSpeaks, EndsRight, HoldsAt, KeepRight, Leads, heard_by}
use Rattle.txn_clients.specs.Growing.{right_same}
use Rattle.txn_clients.specs.Clients.{rows_of, stands_of}
use Rattle.txn_clients.specs.declared.clients.Clients.{Clients}
use Rattle.txn_clients.specs.declared.row.Row.{Row}
use Rattle.txn_clients.proofs.Doubting.{end_speaks_on, none_lost, shown_front}
use Rattle.txn_clients.proofs.Sights.{HasSettled, ask_settles, outcomes_append}
use Rattle.txn_clients.specs.First.{Front}

-- What is posted, in two parts

pub postings_then : (ps qs : List Posting) (h : List Event) → with_postings (ps ++ qs) h ≡ with_postings qs (with_postings ps h)
postings_then [] qs h = refl
postings_then (p ∷ ps) qs h = postings_then ps qs (with_posting p h)

-- What ends, in two parts

-- each that is among them has a fact that follows for those
all_by : {X : Type 0} (A B : X → Type 0) (xs : List X) → ((x : X) → IsAmong xs x → A x → B x) → All A xs → All B xs
all_by A B [] f all = All-nil B
all_by A B (x ∷ xs) f all = All-cons B x xs (f x (inl refl) (All-head A x xs all)) (all_by A B xs (λ y i. f y (inr i)) (All-tail A x xs all))

-- a line that is among those that ended has an outcome
pub ended_some : (es : List Ending) (e : Ending) → IsAmong es e → (o : Outcome) × (os : List Outcome) × (outcomes_of e.line es ≡ o ∷ os)
ended_some [] e i = absurd i
ended_some (x ∷ es) e i = by (λ j. ended_some es e j) (nat_eq x.line e.line) refl
  where
    by : (IsAmong es e → (o : Outcome) × (os : List Outcome) × (outcomes_of e.line es ≡ o ∷ os)) → (b : Bool) → nat_eq x.line e.line ≡ b → (o : Outcome) × (os : List Outcome) × (outcomes_of e.line (x ∷ es) ≡ o ∷ os)
    by rest true is = (x.outcome, outcomes_of e.line es, rw is refl)
    by rest false is = elim i [
      | inl same ↦ absurd (let line : x.line ≡ e.line = ap (λ (y : Ending). y.line) same in grind (arith, nat_tests))
      | inr j ↦ let w = rest j in (w.0, w.1, rw is w.2)
    ]

-- What answers a line stands where it stood, where the line ends later.

settled_own : (n c : ℕ) (s : Stand) → HasSettled c s → answered_at n s ≡ itself n
settled_own n c s (inl e) = ap (answered_at n) e
settled_own n c s (inr (inl e)) = ap (answered_at n) e
settled_own n c s (inr (inr e)) = ap (answered_at n) e

ask_own : (n c : ℕ) (b : Bool) (os : List Outcome) (mid : Stand) → StaysOrEnds (Asking c b) (AskEnds c b) os mid → answered_at n mid ≡ itself n
ask_own n c b [] mid h = ap (answered_at n) h
ask_own n c b (o ∷ []) mid h = settled_own n c mid (ask_settles c b o mid h)
ask_own n c b (o ∷ p ∷ os) mid h = absurd h

call_own : (n c x : ℕ) (b : Bool) (os more : List Outcome) (o : Outcome) (mid new : Stand) → StaysOrEnds (Calling c x b) (CallEnds c b) os mid → StaysOrEnds (Calling c x b) (CallEnds c b) (os ++ o ∷ more) new → answered_at n mid ≡ record { at = x; commits = b }
call_own n c x b [] more o mid new h k = ap (answered_at n) h
call_own n c x b (p ∷ []) more o mid new h k = absurd k
call_own n c x b (p ∷ q ∷ os) more o mid new h k = absurd h

-- of a line that ends in the second part of a step
pub heard_once : (es more : List Ending) (n : ℕ) (old mid new : Stand) (o : Outcome) (os : List Outcome) → outcomes_of n more ≡ o ∷ os → LineGoes es n old mid → LineGoes (es ++ more) n old new → answered_at n mid ≡ answered_at n old
heard_once es more n Idle mid new o os e h k = ap (answered_at n) h.1
heard_once es more n (IsClient c) mid new o os e h k = ap (answered_at n) h.1
heard_once es more n (Asking c b) mid new o os e h k = ask_own n c b (outcomes_of n es) mid h
heard_once es more n (HasBegun c m) mid new o os e h k = ap (answered_at n) h.1
heard_once es more n (Calling c x b) mid new o os e h k =
    call_own n c x b (outcomes_of n es) os o mid new h
    (subst (λ ys. StaysOrEnds (Calling c x b) (CallEnds c b) (outcomes_of n es ++ ys) new) e (subst (λ ys. StaysOrEnds (Calling c x b) (CallEnds c b) ys new) (outcomes_append n es more) k))
heard_once es more n (Past c) mid new o os e h k = ap (answered_at n) h.1
heard_once es more n (Working c) mid new o os e h k = ap (answered_at n) h.1

module _ {P : Type 0} where
  -- What is right of rows

  pub kept_rows : (olds news : List (Row P)) → news ≡ olds → KeepRight olds news
  kept_rows olds news e = subst (KeepRight olds) (sym e) (right_same olds)

  pub kept_then : (olds mids news : List (Row P)) → KeepRight olds mids → KeepRight mids news → KeepRight olds news
  kept_then olds mids news f g x o h longer within right = g x o longer longer (Within-refl longer) (f x o h longer within right)

  -- Where what answers a line stands

  pub heard_same : (s m : Clients P) → stands_of (rows_of m) ≡ stands_of (rows_of s) → (n : ℕ) → heard_by m n ≡ heard_by s n
  heard_same s m e n = ap (λ ss. answered_at n (stand_at ss n)) e

  -- What ended right

  pub ends_none : (at : ℕ → CallOf) (t : Clients P) (h : List Event) (es fs : List Ending) → fs ≡ es → EndsRight at t h es fs
  ends_none at t h es fs e = record { more = []; ended = e ∙ sym (append-nil es); each = All-nil _; says = All-nil _ }

  pub ends_at : (at later_at : ℕ → CallOf) (t : Clients P) (h : List Event) (es fs : List Ending) → (f : EndsRight later_at t h es fs) → ((e : Ending) → IsAmong f.more e → later_at e.line ≡ at e.line) → EndsRight at t h es fs
  ends_at at later_at t h es fs f same = record {
    more = f.more;
    ended = f.ended;
    each = all_by (λ (e : Ending). HoldsAt (rows_of t) h (later_at e.line).at e.outcome) (λ (e : Ending). HoldsAt (rows_of t) h (at e.line).at e.outcome) f.more (λ e i right. subst (λ (x : CallOf). HoldsAt (rows_of t) h x.at e.outcome) (same e i) right) f.each;
    says = all_by (λ (e : Ending). EndSpeaks (rows_of t) h (later_at e.line) e.line e.outcome) (λ (e : Ending). EndSpeaks (rows_of t) h (at e.line) e.line e.outcome) f.more (λ e i speaks. subst (λ x. EndSpeaks (rows_of t) h x e.line e.outcome) (same e i) speaks) f.says;
  }

  -- it stays right, where no loss is new
  pub ends_on : (at : ℕ → CallOf) (s t : Clients P) (h longer : List Event) (es fs : List Ending) → Within h longer → ((u : Ticket) (r : Request) → Has longer (Lost u r) → Has h (Lost u r)) → Front (seen h) (seen longer) → KeepRight (rows_of s) (rows_of t) → EndsRight at s h es fs → EndsRight at t longer es fs
  ends_on at s t h longer es fs within unlost front kept f = record {
    more = f.more;
    ended = f.ended;
    each = All-weaker (λ (e : Ending). HoldsAt (rows_of s) h (at e.line).at e.outcome) (λ (e : Ending). HoldsAt (rows_of t) longer (at e.line).at e.outcome) (λ e right. kept (at e.line).at e.outcome h longer within right) f.more f.each;
    says = All-weaker (λ (e : Ending). EndSpeaks (rows_of s) h (at e.line) e.line e.outcome) (λ (e : Ending). EndSpeaks (rows_of t) longer (at e.line) e.line e.outcome) (λ e speaks. end_speaks_on h longer within unlost front (rows_of s) (rows_of t) (at e.line) e.line e.outcome kept speaks) f.more f.says;
  }

  pub ends_then : (at : ℕ → CallOf) (t : Clients P) (h : List Event) (es fs gs : List Ending) → EndsRight at t h es fs → EndsRight at t h fs gs → EndsRight at t h es gs
  ends_then at t h es fs gs f g = record {
    more = f.more ++ g.more;
    ended = g.ended ∙ ap (λ xs. xs ++ g.more) f.ended ∙ append_assoc es f.more g.more;
    each = All-append (λ (e : Ending). HoldsAt (rows_of t) h (at e.line).at e.outcome) f.more g.more f.each g.each;
    says = All-append (λ (e : Ending). EndSpeaks (rows_of t) h (at e.line) e.line e.outcome) f.more g.more f.says g.says;
  }

  module _ (w : Ways P) where
    -- nothing is done
    pub leads_nothing : (askers : Ticket → List ℕ) (rest : List Answered) (ps : List Posting) (es : List Ending) (at : ℕ → CallOf) (s : Clients P) (h : List Event) → Arisen w s askers rest h → Leads w askers rest ps ps es es at s s (seen h) h Anyhow
    leads_nothing askers rest ps es at s h arisen = record {
      later = h;
      more = [];
      posted = sym (append-nil ps);
      shows = refl;
      within = Within-refl h;
      arisen = arisen;
      kept = right_same (rows_of s);
      ends = ends_none at s h es es refl;
      then = tt;
    }

    -- one part after another, where the lines that end in the second are answered where they stood before the first
    pub leads_then : (askers more_askers : Ticket → List ℕ) (rest left : List Answered) (ps qs rs : List Posting) (es fs gs : List Ending) (at later_at : ℕ → CallOf) (s m t : Clients P) (shown h : List Event) (First Then : List Event → Type 0)
        → (f : Leads w askers rest ps qs es fs at s m shown h First) (g : Leads w more_askers left qs rs fs gs later_at m t (seen f.later) f.later Then)
        → ((e : Ending) → IsAmong g.ends.more e → later_at e.line ≡ at e.line)
        → Leads w more_askers left ps rs es gs at s t shown h Then
    leads_then askers more_askers rest left ps qs rs es fs gs at later_at s m t shown h First Then f g same = record {
      later = g.later;
      more = f.more ++ g.more;
      posted = g.posted ∙ ap (λ xs. xs ++ g.more) f.posted ∙ append_assoc ps f.more g.more;
      shows = g.shows ∙ ap (with_postings g.more) f.shows ∙ sym (postings_then f.more g.more shown);
      within = Within-trans h f.later g.later f.within g.within;
      arisen = g.arisen;
      kept = kept_then (rows_of s) (rows_of m) (rows_of t) f.kept g.kept;
      ends = ends_then at t g.later es fs gs (ends_on at m t f.later g.later es fs g.within (none_lost g.more f.later g.later g.shows) (shown_front g.more f.later g.later g.shows) g.kept f.ends) (ends_at at later_at t g.later fs gs g.ends same);
      then = g.then;
    }

    -- and where none ends in the second
    pub leads_unended : (askers more_askers : Ticket → List ℕ) (rest left : List Answered) (ps qs rs : List Posting) (es fs gs : List Ending) (at later_at : ℕ → CallOf) (s m t : Clients P) (shown h : List Event) (First Then : List Event → Type 0)
        → gs ≡ fs → (f : Leads w askers rest ps qs es fs at s m shown h First) (g : Leads w more_askers left qs rs fs gs later_at m t (seen f.later) f.later Then)
        → Leads w more_askers left ps rs es gs at s t shown h Then
    leads_unended askers more_askers rest left ps qs rs es fs gs at later_at s m t shown h First Then e f g = record {
      later = g.later;
      more = f.more ++ g.more;
      posted = g.posted ∙ ap (λ xs. xs ++ g.more) f.posted ∙ append_assoc ps f.more g.more;
      shows = g.shows ∙ ap (with_postings g.more) f.shows ∙ sym (postings_then f.more g.more shown);
      within = Within-trans h f.later g.later f.within g.within;
      arisen = g.arisen;
      kept = kept_then (rows_of s) (rows_of m) (rows_of t) f.kept g.kept;
      ends = subst (EndsRight at t g.later es) (sym e) (ends_on at m t f.later g.later es fs g.within (none_lost g.more f.later g.later g.shows) (shown_front g.more f.later g.later g.shows) g.kept f.ends);
      then = g.then;
    }

    -- a part of which more was known before, and less is asked after it
    pub leads_from : (askers : Ticket → List ℕ) (rest : List Answered) (ps qs : List Posting) (es fs : List Ending) (at : ℕ → CallOf) (s m t : Clients P) (shown h k : List Event) (Then Then' : List Event → Type 0)
        → Within h k → KeepRight (rows_of s) (rows_of m) → ((later : List Event) → Then later → Then' later) → Leads w askers rest ps qs es fs at m t shown k Then → Leads w askers rest ps qs es fs at s t shown h Then'
    leads_from askers rest ps qs es fs at s m t shown h k Then Then' within kept weaker f = record {
      later = f.later;
      more = f.more;
      posted = f.posted;
      shows = f.shows;
      within = Within-trans h k f.later within f.within;
      arisen = f.arisen;
      kept = kept_then (rows_of s) (rows_of m) (rows_of t) kept f.kept;
      ends = f.ends;
      then = weaker f.later f.then;
    }

    -- what answers a line stands there under another name
    pub leads_at : (askers : Ticket → List ℕ) (rest : List Answered) (ps qs : List Posting) (es fs : List Ending) (at later_at : ℕ → CallOf) (s t : Clients P) (shown h : List Event) (Then : List Event → Type 0)
        → (f : Leads w askers rest ps qs es fs later_at s t shown h Then) → ((e : Ending) → IsAmong f.ends.more e → later_at e.line ≡ at e.line) → Leads w askers rest ps qs es fs at s t shown h Then
    leads_at askers rest ps qs es fs at later_at s t shown h Then f same = record {
      later = f.later;
      more = f.more;
      posted = f.posted;
      shows = f.shows;
      within = f.within;
      arisen = f.arisen;
      kept = f.kept;
      ends = ends_at at later_at t f.later es fs f.ends same;
      then = f.then;
    }
