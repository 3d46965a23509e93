-- No timestamp is answered twice: each that the store gives is above its last one, which never falls.
use Rattle.std.proofs.Common.{◌≡◌, ℕ, ◌<◌, ◌≤◌, ◌⊎◌, inl, inr, Bool, true, false, ◌&&◌, if◌then◌else◌, List, [], ◌∷◌, ◌++◌, Option, Some, None, length, nat_eq, nat_lt, slice_get, refl, sym, ap, ◌∙◌, subst, arith, length-append}
use Rattle.std.specs.Option.{option_map}
use Rattle.txn_kv.specs.Timestamp.{version_of}
use Rattle.txn_kv.specs.declared.reply.Reply.{Reply}
use Rattle.txn_kv.specs.declared.reply.Reply.TheVariants as replies
use Rattle.txn_kv.specs.declared.reply.cluster.TsoResponse.{TsoResponse}
use Rattle.txn_kv.specs.declared.request.Request.{Request}
use Rattle.txn_kv.specs.declared.request.Request.TheVariants.{Tso}
use Rattle.txn_kv.specs.declared.request.cluster.TsoRequest.{TsoRequest}
use Rattle.txn_kv.specs.declared.ticket.Ticket.{Ticket}
use Rattle.txn_history.specs.Among.{IsAmong}
use Rattle.txn_history.specs.Busy.{busy_reply}
use Rattle.txn_history.specs.Event.{Event, Has, kept_reply, same_ticket}
use Rattle.txn_history.specs.Event.Event.{Served, Took}
use Rattle.txn_history.specs.Event.Event.{Sent as SentEvent}
use Rattle.txn_history.specs.Licence.{GivesTimestamp}
use Rattle.txn_law.proofs.Clocks.{last_stays}
use Rattle.txn_law.proofs.Kept.{passes}
use Rattle.txn_law.proofs.Replies.{timestamps_rise}
use Rattle.txn_law.specs.Run.{store_after}
use Rattle.txn_lines.specs.Deeds.{deed_of}
use Rattle.txn_lines.specs.declared.deed.Deed.{Deed}
use Rattle.txn_lines.specs.declared.deed.Deed.TheVariants as deeds
use Rattle.txn_lines.specs.declared.happening.Happening.TheVariants as happenings
use Rattle.txn_lines.specs.declared.line.Line.{Line}
use Rattle.txn_model.specs.Table.{table}
use Rattle.txn_post.specs.Mail.{IsMail, Mail}
use Rattle.txn_post.specs.declared.post.Place.TheVariants.{Sent}
use Rattle.txn_report.specs.declared.outcome.Outcome.{Outcome}
use Rattle.txn_report.specs.declared.report.SentNote.{SentNote}
use Rattle.txn_side.specs.Sight.{Gives}
use Rattle.txn_machine.specs.Script.{does, find, history, is_done, loses, outcome_of, refuses, refuses_it, serves, takes, takes_it, with_sends}
use Rattle.txn_machine.specs.Times.{AllTimed, AreApart, IsTimed}
use Rattle.txn_machine.proofs.Finds.{same_is}
use Rattle.txn_machine.proofs.Noting.{among_at}

-- What a history is made of.

-- this request was sent with the ticket
abbrev pub WasAsked : List SentNote → Ticket → Request → Type 0
WasAsked sent t r = (s : SentNote) × IsAmong sent s × (s.ticket ≡ t) × (s.request ≡ r)

-- what is served is the table's reply to a request that was sent, and what is taken was served, or comes of a store that is too busy
abbrev pub Fits : List SentNote → List Event → Event → Type 0
Fits sent es (Served t r o) = WasAsked sent t r × (o ≡ (table (store_after es) r).reply)
Fits sent es (Took t r o) = ((q : Request) × Has es (Served t q o)) ⊎ (busy_reply r ≡ Some o)
Fits sent es _ = Unit {0}

abbrev pub AllFit : List SentNote → List Event → Type 0
AllFit sent [] = Unit {0}
AllFit sent (e ∷ es) = Fits sent es e × AllFit sent es

find_asked : (ss : List SentNote) (n : ℕ) (t : Ticket) (r : Request) → find ss n t ≡ Some r → WasAsked ss t r
find_asked [] n t r e = absurd (cc)
find_asked (s ∷ ss) n t r e = by (same_ticket s.ticket t) refl (nat_lt s.at n) (λ f. let w = find_asked ss n t r f in (w.0, inr w.1, w.2, w.3)) e
  where
    by : (a : Bool) → same_ticket s.ticket t ≡ a → (b : Bool) → (find ss n t ≡ Some r → WasAsked (s ∷ ss) t r) → (if a && b then Some s.request else find ss n t) ≡ Some r → WasAsked (s ∷ ss) t r
    by true q true later f = (s, inl refl, same_is s.ticket t q, cc)
    by true q false later f = later f
    by false q b later f = later f

pub kept_served : (es : List Event) (t : Ticket) (o : Reply) → kept_reply es t ≡ Some o → (q : Request) × Has es (Served t q o)
kept_served [] t o e = absurd (cc)
kept_served (Served u r p ∷ es) t o e = by (same_ticket u t) refl (λ f. let w = kept_served es t o f in (w.0, inr w.1)) e
  where
    by : (b : Bool) → same_ticket u t ≡ b → (kept_reply es t ≡ Some o → (q : Request) × Has (Served u r p ∷ es) (Served t q o)) → (if b then Some p else kept_reply es t) ≡ Some o → (q : Request) × Has (Served u r p ∷ es) (Served t q o)
    by true same later f = let is : u ≡ t = same_is u t same in let reply : p ≡ o = cc in (r, inl (λ i. Served (is i) r (reply i)))
    by false same later f = later f
kept_served (_ ∷ es) t o e = let w = kept_served es t o e in (w.0, inr w.1)

module _ (sent : List SentNote) where
  serves_fit : (t : Ticket) (n : ℕ) (es : List Event) → AllFit sent es → AllFit sent (serves t (find sent n t) es)
  serves_fit t n es f = by (find sent n t) refl
    where
      by : (o : Option Request) → find sent n t ≡ o → AllFit sent (serves t o es)
      by None e = f
      by (Some r) e = ((find_asked sent n t r e, refl), f)

  takes_fit : (t : Ticket) (o : Option Request) (es : List Event) → AllFit sent es → AllFit sent (takes t o es)
  takes_fit t None es f = f
  takes_fit t (Some r) es f = by (kept_reply es t) refl
    where
      by : (o : Option Reply) → kept_reply es t ≡ o → AllFit sent (takes_it t r o es)
      by None e = f
      by (Some o) e = (inl (kept_served es t o e), f)

  refuses_fit : (t : Ticket) (o : Option Request) (es : List Event) → AllFit sent es → AllFit sent (refuses t o es)
  refuses_fit t None es f = f
  refuses_fit t (Some r) es f = by (busy_reply r) refl
    where
      by : (o : Option Reply) → busy_reply r ≡ o → AllFit sent (refuses_it t r o es)
      by None e = f
      by (Some o) e = (inr e, (tt, f))

  loses_fit : (t : Ticket) (o : Option Request) (es : List Event) → AllFit sent es → AllFit sent (loses t o es)
  loses_fit t None es f = f
  loses_fit t (Some r) es f = (tt, f)

  does_fit : (n : ℕ) (deed : Deed) (es : List Event) → AllFit sent es → AllFit sent (does (λ t. find sent n t) deed es)
  does_fit n (deeds.Happens (happenings.Serve t)) es f = serves_fit t n es f
  does_fit n (deeds.Happens (happenings.Answer t)) es f = takes_fit t (find sent n t) es f
  does_fit n (deeds.Happens (happenings.Deliver t)) es f = takes_fit t (find sent n t) (serves t (find sent n t) es) (serves_fit t n es f)
  does_fit n (deeds.Happens (happenings.Lose t)) es f = loses_fit t (find sent n t) es f
  does_fit n (deeds.Happens (happenings.Busy t)) es f = refuses_fit t (find sent n t) es f
  does_fit n (deeds.Happens (happenings.Wake t)) es f = (tt, f)
  does_fit n (deeds.Happens (happenings.Split key)) es f = (tt, f)
  does_fit n (deeds.Happens (happenings.Lead region to)) es f = (tt, f)
  does_fit n (deeds.Happens (happenings.Clock ms)) es f = (tt, f)
  does_fit n (deeds.Happens (happenings.Crash k)) es f = (tt, f)
  does_fit n deed es f = f

  sends_fit : (ss : List SentNote) (n : ℕ) (es : List Event) → AllFit sent es → AllFit sent (with_sends ss n es)
  sends_fit [] n es f = f
  sends_fit (s ∷ ss) n es f = sends_fit ss n (if nat_eq s.at n then SentEvent s.ticket s.request ∷ es else es) (one (nat_eq s.at n))
    where
      one : (b : Bool) → AllFit sent (if b then SentEvent s.ticket s.request ∷ es else es)
      one true = (tt, f)
      one false = f

  pub history_fit : (outs : List Outcome) (ls : List Line) → AllFit sent (history sent outs ls)
  history_fit outs [] = tt
  history_fit outs (l ∷ ls) = sends_fit sent (length (l ∷ ls)) _ (one (is_done (outcome_of outs (length (l ∷ ls)))) (history_fit outs ls))
    where
      one : (b : Bool) → AllFit sent (history sent outs ls) → AllFit sent (if b then does (λ t. find sent (length (l ∷ ls)) t) (deed_of l) (history sent outs ls) else history sent outs ls)
      one true f = does_fit (length (l ∷ ls)) (deed_of l) (history sent outs ls) f
      one false f = f

  -- Of what fits.

  pub served_asked : (es : List Event) → AllFit sent es → (t : Ticket) (r : Request) (o : Reply) → Has es (Served t r o) → WasAsked sent t r
  served_asked [] f t r o h = absurd h
  served_asked (e ∷ es) f t r o (inl h) = (subst (λ x. Fits sent es x) h f.0).0
  served_asked (e ∷ es) f t r o (inr h) = served_asked es f.1 t r o h

  took_served : (es : List Event) → AllFit sent es → (t : Ticket) (r : TsoRequest) (o : Reply) → Has es (Took t (Tso r) o) → (q : Request) × Has es (Served t q o)
  took_served [] f t r o h = absurd h
  took_served (e ∷ es) f t r o (inl h) = elim (subst (λ x. Fits sent es x) h f.0) [ inl w ↦ (w.0, inr w.1) | inr b ↦ absurd (cc) ]
  took_served (e ∷ es) f t r o (inr h) = let w = took_served es f.1 t r o h in (w.0, inr w.1)

  last_on : (es : List Event) (e : Event) → (store_after es).last ≤ (store_after (e ∷ es)).last
  last_on es (SentEvent t r) = omega arith
  last_on es (Served t r o) = last_stays (store_after es) r
  last_on es e = let z = (passes es e tt).last in omega (arith, z)

  -- what was given is at most the last timestamp
  given_most : (es : List Event) → AllFit sent es → (t : Ticket) (r : TsoRequest) (o : TsoResponse) (c : ℕ) → Has es (Served t (Tso r) (replies.Tso o)) → GivesTimestamp o c → c ≤ (store_after es).last
  given_most [] f t r o c h g = absurd h
  given_most (e ∷ es) f t r o c (inl h) g =
      let now : Fits sent es (Served t (Tso r) (replies.Tso o)) = subst (λ x. Fits sent es x) h f.0 in
      subst (λ x. c ≤ (store_after (x ∷ es)).last) (sym h) (timestamps_rise (store_after es) r o c (sym now.1) g).1
  given_most (e ∷ es) f t r o c (inr h) g = let a = given_most es f.1 t r o c h g in let b = last_on es e in omega (arith, a, b)

  -- what is given now is above all that was given before
  rises : (e : Event) (es : List Event) → AllFit sent (e ∷ es) → (t : Ticket) (r : TsoRequest) (o : TsoResponse) (c : ℕ) → e ≡ Served t (Tso r) (replies.Tso o) → GivesTimestamp o c
      → (u : Ticket) (q : TsoRequest) (p : TsoResponse) (d : ℕ) → Has es (Served u (Tso q) (replies.Tso p)) → GivesTimestamp p d → d < c
  rises e es f t r o c h g u q p d k i =
      let now : Fits sent es (Served t (Tso r) (replies.Tso o)) = subst (λ x. Fits sent es x) h f.0 in
      let a = (timestamps_rise (store_after es) r o c (sym now.1) g).0 in
      let b = given_most es f.1 u q p d k i in
      omega (arith, a, b)

  served_same : (t u : Ticket) (r q : TsoRequest) (o p : TsoResponse) → Served t (Tso r) (replies.Tso o) ≡ Served u (Tso q) (replies.Tso p) → (t ≡ u) × (o ≡ p)
  served_same t u r q o p e = (cc, cc)

  served_once : (es : List Event) → AllFit sent es → (t u : Ticket) (r q : TsoRequest) (o p : TsoResponse) (c : ℕ)
      → Has es (Served t (Tso r) (replies.Tso o)) → Has es (Served u (Tso q) (replies.Tso p)) → GivesTimestamp o c → GivesTimestamp p c → (t ≡ u) × (o ≡ p)
  served_once [] f t u r q o p c h k g i = absurd h
  served_once (e ∷ es) f t u r q o p c (inl h) (inl k) g i = served_same t u r q o p (sym h ∙ k)
  served_once (e ∷ es) f t u r q o p c (inl h) (inr k) g i = absurd (let a = rises e es f t r o c h g u q p c k i in omega (arith, a))
  served_once (e ∷ es) f t u r q o p c (inr h) (inl k) g i = absurd (let a = rises e es f u q p c k i t r o c h g in omega (arith, a))
  served_once (e ∷ es) f t u r q o p c (inr h) (inr k) g i = served_once es f.1 t u r q o p c h k g i

-- Of the lines.

-- a ticket is noted once
one_note : (mail : Mail) (a b : SentNote) → IsMail mail → IsAmong mail.sent a → IsAmong mail.sent b → a.ticket ≡ b.ticket → a ≡ b
one_note mail a b m h k same =
    let i = among_at mail.sent a h in
    let j = among_at mail.sent b k in
    let x = m.found a.ticket (Sent i.0) (ap (λ o. option_map (λ (s : SentNote). s.ticket) o) i.1) in
    let y = m.found a.ticket (Sent j.0) (ap (λ o. option_map (λ (s : SentNote). s.ticket) o) j.1 ∙ ap (λ t. Some t) (sym same)) in
    let places : Some (Sent i.0) ≡ Some (Sent j.0) = sym x ∙ y in
    let place : i.0 ≡ j.0 = cc in
    let notes : Some a ≡ Some b = sym i.1 ∙ ap (λ n. slice_get mail.sent n) place ∙ j.1 in
    cc

gives_timestamp : (o : TsoResponse) (askers : List ℕ) (n version : ℕ) → Gives o askers n version → GivesTimestamp o version
gives_timestamp o askers n version g = let a = g.below in let b = g.within in (g.last, g.is_last, omega (arith, a), omega (arith, a, b))

-- in one list two with so many behind them are one
same_middle : (xs ys cs bs : List ℕ) (n m : ℕ) → xs ++ n ∷ cs ≡ ys ++ m ∷ bs → length cs ≡ length bs → n ≡ m
same_middle [] [] cs bs n m e l = cc
same_middle [] (y ∷ ys) cs bs n m e l = absurd (let a = ap (λ zs. length zs) e in let b = length-append ys (m ∷ bs) in omega (arith, a, b, l))
same_middle (x ∷ xs) [] cs bs n m e l = absurd (let a = ap (λ zs. length zs) e in let b = length-append xs (n ∷ cs) in omega (arith, a, b, l))
same_middle (x ∷ xs) (y ∷ ys) cs bs n m e l = same_middle xs ys cs bs n m (cc) l

same_behind : (o p : TsoResponse) (ns ms : List ℕ) (n m version : ℕ) (g : Gives o ns n version) (h : Gives p ms m version) → o ≡ p → length g.behind ≡ length h.behind
same_behind o p ns ms n m version g h e =
    let lasts : Some g.last ≡ Some h.last = sym g.is_last ∙ ap (λ (x : TsoResponse). x.timestamp) e ∙ h.is_last in
    let last : g.last ≡ h.last = cc in
    let one : version_of g.last ≡ version_of h.last = ap version_of last in
    let a = g.below in
    let b = h.below in
    omega (arith, one, a, b)

module _ (mail : Mail) (outs : List Outcome) (script : List Line) (m : IsMail mail) (timed : AllTimed mail.sent (history mail.sent outs script) outs) where
  abbrev es : List Event
  es = history mail.sent outs script

  fits : AllFit mail.sent es
  fits = history_fit mail.sent outs script

  time_served : (n version : ℕ) (w : IsTimed mail.sent es n version) → Has es (Served w.note.ticket (Tso w.request) (replies.Tso w.response))
  time_served n version w =
      let served = took_served mail.sent es fits w.note.ticket w.request (replies.Tso w.response) w.taken in
      let sent = served_asked mail.sent es fits w.note.ticket served.0 (replies.Tso w.response) served.1 in
      let note = one_note mail sent.0 w.note m sent.1 w.noted sent.2 in
      let request : served.0 ≡ Tso w.request = sym sent.3 ∙ ap (λ (s : SentNote). s.request) note ∙ w.asks in
      subst (λ q. Has es (Served w.note.ticket q (replies.Tso w.response))) request served.1

  pub times_apart : AreApart outs
  times_apart n k version a b =
      let x = timed n version a in
      let y = timed k version b in
      let same = served_once mail.sent es fits x.note.ticket y.note.ticket x.request y.request x.response y.response version (time_served n version x) (time_served k version y)
      (gives_timestamp x.response x.note.askers n version x.gives) (gives_timestamp y.response y.note.askers k version y.gives) in
      let note = one_note mail x.note y.note m x.noted y.noted same.0 in
      same_middle x.gives.ahead y.gives.ahead x.gives.behind y.gives.behind n k (sym x.gives.lines ∙ ap (λ (s : SentNote). s.askers) note ∙ y.gives.lines)
      (same_behind x.response y.response x.note.askers y.note.askers n k version x.gives y.gives same.1)
