-- What the clients do in a step, they do with their heartbeats beside them, and heartbeats post more.
use Rattle.std.proofs.Common.{◌≡◌, ◌≤◌, ℕ, false, true, List, [], ◌∷◌, ◌++◌, Option, Some, None, refl, sym, ap, ◌∙◌, subst}
use Rattle.std.proofs.lemmas.List.Elements.{All-nil}
use Rattle.std.specs.List.{All}
use Rattle.std.specs.Prelude.{IfOk, OnOk, Ok, Err, Result}
use Rattle.txn_heartbeat.specs.Hosting.{StaysSo}
use Rattle.txn_history.specs.Event.{Event}
use Rattle.txn_history.specs.Event.Event.{Sent}
use Rattle.txn_history.specs.Meaning.{Meaning}
use Rattle.txn_kv.specs.declared.errors.Error.{Error}
use Rattle.txn_kv.specs.declared.request.Request.{Request}
use Rattle.txn_kv.specs.declared.ticket.Ticket.{Ticket}
use Rattle.txn_law.specs.Run.{IsPossible}
use Rattle.txn_lines.specs.Deeds.{begins}
use Rattle.txn_lines.specs.declared.act.Act.{Act}
use Rattle.txn_lines.specs.declared.client_act.ClientAct.{ClientAct}
use Rattle.txn_report.specs.declared.outcome.Outcome.{Outcome}
use Rattle.txn_side.specs.Account.{Account, TakesIn, after_endings, awaited_line}
use Rattle.txn_side.specs.Arising.{Arises, IsBeat, IsOutside}
use Rattle.txn_side.specs.Doubt.{itself}
use Rattle.txn_side.specs.Sight.{Names, Sight, commits, is_live, line_count, opened, stand_at}
use Rattle.txn_side.specs.Steps.{GivesTo, HearsOf, StaysStill, StepsAsked, StepsTold, StepsUsed}
use Rattle.txn_side.specs.Trace.{HowCallsFail, IsLonger, Trace}
use Rattle.txn_side.specs.Waiting.{Awaited, NoneHeard, posted_in}
use Rattle.txn_side.specs.declared.coming.Coming.{Coming}
use Rattle.txn_side.specs.declared.turn.Turn.{Turn}
use Rattle.txn_heartbeats.specs.Beating.{AreBeats, AreFresh, PostsBeats, with_beats}
use Rattle.txn_heartbeats.specs.Hearts.{IsReady, IsUnbeaten, beats_of, sight_of, waits_of}
use Rattle.txn_heartbeats.specs.Steps.{AskedWithBeats, StaysWithBeats, ToldWithBeats, UsedWithBeats}
use Rattle.txn_heartbeats.specs.declared.heartbeats.Heartbeats.{Heartbeats}
use Rattle.txn_heartbeats.specs.declared.pulse.Pulse.{Pulse}
use Rattle.txn_heartbeats.proofs.Happening.{fresh_opened}
use Rattle.txn_heartbeats.proofs.Numbers.{unused_so}
use Rattle.txn_heartbeats.proofs.Resting.{closed_none}
use Rattle.txn_heartbeats.proofs.Seen.{acts_beside, acts_count, asks_beside, asks_count, given_beside, goes_beside, goes_calls, waits_deaf}
use Rattle.txn_heartbeats.proofs.Sides.{acts_calls, acts_started, after_beside, asks_calls, on_beside, on_started, opened_beats, opened_ready, told_after, told_goes}
use Rattle.txn_heartbeats.proofs.Telling as telling

-- five facts of what went well, one of them under a condition, give another
pub ok_five : {T E A B D : Type 0} (r : Result T E) (P Q R F : T → Type 0) → ((v : T) → A → P v → Q v → (D → R v) → B → F v) → OnOk r A → IfOk r P → IfOk r Q → (D → IfOk r R) → OnOk r B → IfOk r F
ok_five (Ok v) P Q R F f a p q d b = f v a p q d b
ok_five (Err e) P Q R F f a p q d b = tt

-- the clients alone did something
ready_beside : {S H A : Type 0} {sight : S → Sight} {ready : S → Type 0} {m : Meaning H (Result A Error)} → ((s : S) → IsUnbeaten (sight s)) → (old : Heartbeats S H) (side : S) → ready side → line_count (sight side) ≡ line_count (sight old.side) → IsReady ready sight m old
    → IsReady ready sight m (record old { side = side })
ready_beside unused old side may count r = record { side = may; unbeaten = unused side; even = r.even ∙ sym count; alive = r.alive }

module _ {S H A : Type 0} {sight : S → Sight} {ready : S → Type 0} {m : Meaning H (Result A Error)} {waits : S → ℕ → Awaited → Type 0} {account : S → ℕ → Account} {rests : S → Trace → Type 0} {arises : S → List Event → Type 0}
    {holds : S → List Event → ℕ → Outcome → Type 0} (unused : (s : S) → IsUnbeaten (sight s)) where
  -- Nothing is posted

  stays_so : (seen looks : Sight) (old new : Heartbeats S H) → sight_of sight new ≡ looks → IsReady ready sight m new → ((h : List Event) → AreFresh (beats_of old) h → AreFresh (beats_of new) h)
      → StaysStill sight ready waits account rests arises holds seen old.side new.side → StaysWithBeats sight ready m waits account rests arises holds looks old new
  stays_so seen looks old new same may fresh s = record {
    seen = same;
    waits = telling.waits_in sight old new (unused old.side) waits NoneHeard [] s.waits;
    ready = may;
    accounts = s.accounts;
    rests = λ t was u. s.rests t (was (unused old.side));
    arises = λ h a. let r = s.arises h a.side in record { now = record { side = r.now; fresh = fresh h a.fresh }; kept = r.kept; answers = r.answers; says = r.says };
  }

  pub opened_so : (old new : Heartbeats S H) (p : Pulse H) → new.pulses.items ≡ old.pulses.items ++ p ∷ [] → p.next ≡ 1 → p.job ≡ None → IsReady ready sight m old
      → StaysStill sight ready waits account rests arises holds (opened (sight old.side)) old.side new.side → StaysWithBeats sight ready m waits account rests arises holds (opened (sight_of sight old)) old new
  opened_so old new p pushed next none r s =
      let beats = opened_beats old new p pushed next in
      stays_so (opened (sight old.side)) (opened (sight_of sight old)) old new (ap (with_beats (beats_of new)) s.seen ∙ ap (λ bs. with_beats bs (opened (sight old.side))) beats)
      (opened_ready ready sight m old new p pushed next none s.seen s.ready (unused new.side) r) (λ h fresh. fresh_opened (beats_of old) (beats_of new) h beats fresh) s

  pub stays_beside : (seen : Sight) (old : Heartbeats S H) (side : S) → line_count seen ≡ line_count (sight old.side) → IsReady ready sight m old
      → StaysStill sight ready waits account rests arises holds seen old.side side → StaysWithBeats sight ready m waits account rests arises holds (with_beats (beats_of old) seen) old (record old { side = side })
  stays_beside seen old side count r s =
      stays_so seen (with_beats (beats_of old) seen) old (record old { side = side }) (ap (with_beats (beats_of old)) s.seen) (ready_beside unused old side s.ready (ap line_count s.seen ∙ count) r) (λ h fresh. fresh) s

  -- A line calls

  pub asked_beside : (fails : HowCallsFail) (client : ℕ) (act : ClientAct) (old : Heartbeats S H) (side : S) (turn : Option Turn) → IsReady ready sight m old
      → StepsAsked sight ready waits account fails rests arises holds client act old.side side turn → AskedWithBeats sight ready m waits account fails rests arises holds client act old (record old { side = side }) turn
  asked_beside fails client act old side turn r s = record {
    goes = asks_beside (beats_of old) (begins act) client (sight old.side) (sight side) turn (unused_so _ (unused old.side)) (unused_so _ (unused side)) s.goes;
    waits = telling.waits_in sight old (record old { side = side }) (unused old.side) waits NoneHeard (posted_in turn) s.waits;
    ready = ready_beside unused old side s.ready (asks_count (begins act) client (sight old.side) (sight side) turn s.goes) r;
    accounts = s.accounts;
    rests = λ t posted called begun was. let x = s.rests t posted called begun (was (unused old.side)) in ((λ u. x.0), x.1);
    arises = on_beside arises holds old (record old { side = side }) refl itself turn (asks_calls (begins act) client (sight old.side) (sight side) turn (unused old.side) (unused side) s.goes) s.arises;
  }

  pub used_beside : (fails : HowCallsFail) (x : ℕ) (act : Act) (old : Heartbeats S H) (side : S) (was turn : Option Turn) → was ≡ turn → IsReady ready sight m old
      → StepsUsed sight ready waits account fails rests arises holds x act old.side side was → UsedWithBeats sight ready m waits account fails rests arises holds x act old (record old { side = side }) turn
  used_beside fails x act old side was turn is r step = let s = subst (StepsUsed sight ready waits account fails rests arises holds x act old.side side) is step in record {
    goes = acts_beside (beats_of old) act x (sight old.side) (sight side) turn (unused_so _ (unused old.side)) (unused_so _ (unused side)) s.goes;
    waits = telling.waits_in sight old (record old { side = side }) (unused old.side) waits NoneHeard (posted_in turn) s.waits;
    ready = ready_beside unused old side s.ready (acts_count act x (sight old.side) (sight side) turn s.goes) r;
    accounts = s.accounts;
    rests = telling.acts_in sight old (record old { side = side }) (unused old.side) fails rests act x (line_count (sight old.side)) (account old.side x) turn s.rests;
    arises = on_beside arises holds old (record old { side = side }) refl (λ n. record { at = x; commits = commits act }) turn (acts_calls act x (sight old.side) (sight side) turn (unused old.side) (unused side) s.goes) s.arises;
  }

  -- a commit has started a heartbeat
  pub used_started : (beating : (s : S) (h : List Event) (t : Ticket) (r : Request) → t.beat ≡ true → IsBeat r → IsPossible h (Sent t r) → arises s h → Arises (arises s) (holds s) (holds s h) itself (Sent t r ∷ h) []) (longer : (s : S) (t more : Trace) → IsLonger t more → rests s t → rests s more)
      → (fails : HowCallsFail) (x : ℕ) (act : Act) (old new : Heartbeats S H) (mid : S) (line : ℕ) (was : Option Turn) (turn later : Turn) → was ≡ Some turn → line ≡ line_count (sight old.side) → 1 ≤ line_count (sight old.side) → new.side ≡ mid → later.ended ≡ turn.ended
      → PostsBeats line (beats_of old) turn.posted.items later.posted.items (beats_of new) → IsReady ready sight m new
      → StepsUsed sight ready waits account fails rests arises holds x act old.side mid was → UsedWithBeats sight ready m waits account fails rests arises holds x act old new (Some later)
  used_started beating longer fails x act old new mid line was turn later is here one side ended posts may step = let s = subst (StepsUsed sight ready waits account fails rests arises holds x act old.side mid) is step in record {
    goes = acts_started sight act x line old new mid turn later here one (unused old.side) (unused mid) side ended posts s.goes;
    waits = telling.waits_started sight old new (unused old.side) waits NoneHeard mid line turn.posted.items later.posted.items side posts s.waits;
    ready = may;
    accounts =
        subst (λ y. TakesIn act x (line_count (sight old.side)) (account old.side) (account y) later.ended.items) (sym side)
        (subst (λ v. TakesIn act x (line_count (sight old.side)) (account old.side) (account mid) v.items) (sym ended) s.accounts);
    rests = telling.acts_started sight old new (unused old.side) fails rests act x (line_count (sight old.side)) (account old.side x) mid line turn later (longer mid) side ended posts s.rests;
    arises = on_started arises holds old new beating mid line (λ n. record { at = x; commits = commits act }) turn later (acts_calls act x (sight old.side) (sight mid) (Some turn) (unused old.side) (unused mid) s.goes) side ended posts s.arises;
  }

  -- Something comes

  pub told_beside : (fails : HowCallsFail) (t : Ticket) (what : Coming) (old : Heartbeats S H) (side : S) (turn : Turn) → IsReady ready sight m old
      → StepsTold sight ready waits account fails rests arises holds t what old.side side turn → ToldWithBeats sight ready m waits account fails rests arises holds t what old (record old { side = side }) turn
  told_beside fails t what old side turn r s = record {
    goes = goes_beside (beats_of old) (sight old.side) (sight side) turn.posted.items turn.ended.items (unused_so _ (unused old.side)) (unused_so _ (unused side)) s.goes;
    given = given_beside (sight old.side) (beats_of old) t what turn.ended.items s.given;
    waits = λ live. telling.waits_in sight old (record old { side = side }) (unused old.side) waits (HearsOf t what) turn.posted.items (s.waits live);
    ready = ready_beside unused old side s.ready s.goes.count r;
    accounts = s.accounts;
    rests = telling.rests_in sight old (record old { side = side }) (unused old.side) fails rests t what turn s.rests;
    arises = after_beside arises holds old (record old { side = side }) refl (sight old.side) t what turn (goes_calls (sight old.side) (sight side) turn.posted.items turn.ended.items (unused_so _ (unused old.side)) (unused_so _ (unused side)) s.goes) s.arises;
  }

  module _ (beating : (s : S) (h : List Event) (t : Ticket) (r : Request) → t.beat ≡ true → IsBeat r → IsPossible h (Sent t r) → arises s h → Arises (arises s) (holds s) (holds s h) itself (Sent t r ∷ h) [])
      (outside : (s : S) (h : List Event) (e : Event) → IsOutside e → IsPossible h e → arises s h → Arises (arises s) (holds s) (holds s h) itself (e ∷ h) []) (longer : (s : S) (t more : Trace) → IsLonger t more → rests s t → rests s more) where
    -- to a heartbeat
    pub told_beat : (fails : HowCallsFail) (t : Ticket) (what : Coming) (old new : Heartbeats S H) (turn : Turn) → t.beat ≡ true → StaysSo sight waits account rests arises holds old.side new.side → turn.ended.items ≡ []
        → AreBeats t.line (beats_of old) turn.posted.items (beats_of new) → (is_live (sight old.side) t.line ≡ false → turn.posted.items ≡ []) → IsReady ready sight m new
        → ToldWithBeats sight ready m waits account fails rests arises holds t what old new turn
    told_beat fails t what old new turn beat stays ended beats dead may = record {
      goes = told_goes sight t.line old new turn stays.sight_is ended beats dead;
      given = subst (All (Names (GivesTo (sight_of sight old) t what))) (sym ended) (All-nil _);
      waits = λ live.
          waits_deaf t what turn.posted.items (waits_of sight waits old) (waits_of sight waits new) (sight_of sight old) (sight_of sight new) beat (ap (λ (s : Sight). s.groups) stays.sight_is) (λ n a w. (unused old.side, stays.waits_so n a w.1));
      ready = may;
      accounts = λ n. stays.accounts n ∙ unclosed n (account old.side n);
      rests = telling.told_rests sight old new (unused old.side) fails rests longer (sight_of sight old) t what turn stays.rests_so ended;
      arises = told_after arises holds old new beating outside sight waits account rests t.line turn stays ended beats (sight_of sight old) t what;
    }
      where
        unclosed : (n : ℕ) (a : Account) → a ≡ after_endings (sight_of sight old) turn.ended.items n a
        unclosed n a =
            subst (λ es. a ≡ after_endings (sight_of sight old) es n a) (sym ended) (sym (closed_none (stand_at (sight old.side).stands (awaited_line (stand_at (sight old.side).stands n))) a))
