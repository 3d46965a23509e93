-- What calls rest on, and the accounts of transactions, where heartbeats post beside the calls.
use Rattle.std.proofs.Common.{◌≡◌, inl, inr, ℕ, List, [], ◌++◌, length, Some, refl, sym, ap, subst, arith}
use Rattle.std.proofs.lemmas.List.Elements.{All-nil, All-weaker}
use Rattle.std.specs.List.{All, Any}
use Rattle.txn_history.specs.Event.{Event}
use Rattle.txn_kv.specs.declared.request.Request.{Request}
use Rattle.txn_kv.specs.declared.ticket.Ticket.{Ticket}
use Rattle.txn_side.specs.Account.{Account, closed}
use Rattle.txn_side.specs.Sight.{Sight, Stand}
use Rattle.txn_side.specs.Sight.Stand.{Asking, Calling, HasBegun, Idle, IsClient, Past, Working}
use Rattle.txn_side.specs.Trace.{ActsOn, EndsFor, HasCome, HowCallsFail, IsLonger, IsSend, RestsOn, StillRests, Trace, fails_longer, with_posted}
use Rattle.txn_lines.specs.declared.act.Act.{Act}
use Rattle.txn_side.specs.declared.turn.Ending.{Ending}
use Rattle.txn_side.specs.declared.turn.Posting.{Posting}
use Rattle.txn_side.specs.declared.turn.Turn.{Turn}
use Rattle.txn_heartbeats.specs.Beating.{with_beats}
use Rattle.txn_heartbeats.proofs.Seen.{any_left}

-- More is posted

none_any : {X : Type 0} (P : X → Type 0) (xs : List X) → xs ≡ [] → Any P xs → ⊥
none_any P xs e (k, x, within, there, holds) = absurd (omega (arith, within, ap length e))

longer_posted : (t : Trace) (ps qs : List Posting) → IsLonger (with_posted ps t) (with_posted (ps ++ qs) t)
longer_posted t ps qs = record {
  events = λ e h. h;
  calls = λ c i. i;
  begun = λ b i. i;
  rollbacks = λ n i. i;
  groups = λ g i. i;
  sent = λ u r s. elim s [ inl h ↦ inl h | inr a ↦ inr (any_left (IsSend u r) ps qs a) ];
  refused = λ line n h. h;
  beside = λ line n h. h;
}

longer_nothing : (t : Trace) (ps : List Posting) → t.posted ≡ [] → IsLonger t (with_posted ps t)
longer_nothing t ps none = record {
  events = λ e h. h;
  calls = λ c i. i;
  begun = λ b i. i;
  rollbacks = λ n i. i;
  groups = λ g i. i;
  sent = λ u r s. elim s [ inl h ↦ inl h | inr a ↦ absurd (none_any (IsSend u r) t.posted none a) ];
  refused = λ line n h. h;
  beside = λ line n h. h;
}

module _ (fails : HowCallsFail) where
  ends_longer : (t : Trace) (ps qs : List Posting) (e : Ending) → EndsFor fails (with_posted ps t) e → EndsFor fails (with_posted (ps ++ qs) t) e
  ends_longer t ps qs e ends why failed = elim (ends why failed) [
    | inl f ↦ inl (fails_longer (with_posted ps t) (with_posted (ps ++ qs) t) (longer_posted t ps qs) refl refl fails e.line why f)
    | inr r ↦ inr r
  ]

  module _ (was is : Trace → Type 0) (is_longer : (t longer : Trace) → IsLonger t longer → is t → is longer) where
    pub rests_then : (t : Trace) (ps qs : List Posting) (es : List Ending) → RestsOn fails was is t ps es → RestsOn fails was is t (ps ++ qs) es
    rests_then t ps qs es rests before =
        let r = rests before in (
          is_longer (with_posted ps t) (with_posted (ps ++ qs) t) (longer_posted t ps qs) r.0,
          All-weaker (EndsFor fails (with_posted ps t)) (EndsFor fails (with_posted (ps ++ qs) t)) (ends_longer t ps qs) es r.1,
        )

    -- what comes for a heartbeat ends no call
    pub rests_deaf : (t : Trace) (ps : List Posting) (es : List Ending) → es ≡ [] → t.posted ≡ [] → StillRests was is → RestsOn fails was is t ps es
    rests_deaf t ps es none posted still before = (is_longer t (with_posted ps t) (longer_nothing t ps posted) (still t before), subst (All (EndsFor fails (with_posted ps t))) (sym none) (All-nil _))

    pub acts_then : (act : Act) (x newest : ℕ) (account : Account) (turn later : Turn) (qs : List Posting) → later.posted.items ≡ turn.posted.items ++ qs → later.ended ≡ turn.ended → ActsOn fails was is act x newest account (Some turn) → ActsOn fails was is act x newest account (Some later)
    acts_then act x newest account turn later qs pushed ended acts t posted called refused rolls =
        subst (λ ps. RestsOn fails was is t ps later.ended.items) (sym pushed) (subst (λ v. RestsOn fails was is t (turn.posted.items ++ qs) v.items) (sym ended) (rests_then t turn.posted.items qs turn.ended.items (acts t posted called refused rolls)))

-- what has come is seen without the numbers of heartbeats
pub come_beside : (before t : Trace) (s : Sight) (beats : List ℕ) (u : Ticket) (event : Request → Event) → HasCome before t (with_beats beats s) u event → HasCome before t s u event
come_beside before t s beats u event came = record { now = came.now; told = came.told; own = came.own; group = came.group }

-- The accounts

pub closed_none : (x : Stand) (account : Account) → closed x [] account ≡ account
closed_none Idle account = refl
closed_none (IsClient c) account = refl
closed_none (Asking c b) account = refl
closed_none (HasBegun c m) account = refl
closed_none (Calling c x b) account = refl
closed_none (Past c) account = refl
closed_none (Working c) account = refl
