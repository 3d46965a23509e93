-- No timestamp is drawn twice.
use Rattle.std.proofs.Common.{◌≡◌, ℕ, ◌+◌, ◌-◌, ◌<◌, inl, inr, zero, suc, List, [], ◌∷◌, ◌++◌, length, map, Some, refl, sym, ap, ◌∙◌, subst, arith}
use Rattle.std.proofs.lemmas.List.{length-append, length-map, map-append}
use Rattle.std.specs.Prelude.{slice_get, Ok}
use Rattle.txn_kv.specs.Timestamp.{version_of}
use Rattle.txn_kv.specs.declared.reply.Reply.{Reply}
use Rattle.txn_kv.specs.declared.reply.Reply.TheVariants as reply
use Rattle.txn_kv.specs.declared.reply.cluster.TsoResponse.{TsoResponse}
use Rattle.txn_kv.specs.declared.request.Request.TheVariants.{Tso}
use Rattle.txn_kv.specs.declared.request.cluster.TsoRequest.{TsoRequest}
use Rattle.txn_kv.specs.declared.ticket.Ticket.{Ticket}
use Rattle.txn_kv.specs.declared.timestamp.Timestamp.{Timestamp}
use Rattle.txn_history.specs.Among.{IsAmong}
use Rattle.txn_history.specs.Event.{Event, Has}
use Rattle.txn_history.specs.Event.Event.{Served, Took}
use Rattle.txn_history.specs.Licence.{GivesTimestamp, WasGiven}
use Rattle.txn_history.specs.Plan.{Plan}
use Rattle.txn_history.specs.Posted.{Within}
use Rattle.txn_law.specs.Run.{IsRun, store_after}
use Rattle.txn_law.proofs.Kept.{kept}
use Rattle.txn_law.proofs.Taken.{served_time}
use Rattle.txn_law.proofs.Replies.{timestamps_rise}
use Rattle.txn_tso.specs.Oracle.{Oracle, answer, answered, askers_out}
use Rattle.txn_tso.specs.declared.asker.Asker.{Asker}
use Rattle.txn_trace.specs.Drawing.{IsDrawn}
use Rattle.txn_trace.specs.Seeing.{seen}
use Rattle.txn_trace.proofs.Granting.{IsGrant, answer_of, behind_small, grant_gives, grant_is}
use Rattle.txn_trace.proofs.Seen.{seen_took, took_seen}

-- A timestamp is served once

-- what is served now is above all that was served before
rises : (plans : ℕ → Plan) (e : Event) (es : List Event) → IsRun plans (e ∷ es) → (t : Ticket) (r : TsoRequest) (o : TsoResponse) (c : ℕ) → e ≡ Served t (Tso r) (reply.Tso o) → GivesTimestamp o c
    → (u : Ticket) (q : TsoRequest) (p : TsoResponse) (d : ℕ) → Has es (Served u (Tso q) (reply.Tso p)) → GivesTimestamp p d → d < c
rises plans e es run t r o c h g u q p d k f =
    let now : IsRun plans (Served t (Tso r) (reply.Tso o) ∷ es) = subst (λ x. IsRun plans (x ∷ es)) h run in
    let a = (timestamps_rise (store_after es) r o c (sym now.0.1) g).0 in
    let b = ((kept plans es run.2).means u (Tso q) (reply.Tso p) k d f).1 in
    omega (arith, a, b)

served_same : (t u : Ticket) (r q : TsoRequest) (o p : TsoResponse) → Served t (Tso r) (reply.Tso o) ≡ Served u (Tso q) (reply.Tso p) → (t ≡ u) × (o ≡ p)
served_same t u r q o p e = (cc, cc)

served_once : (plans : ℕ → Plan) (es : List Event) → IsRun plans es → (t u : Ticket) (r q : TsoRequest) (o p : TsoResponse) (c : ℕ)
    → Has es (Served t (Tso r) (reply.Tso o)) → Has es (Served u (Tso q) (reply.Tso p)) → GivesTimestamp o c → GivesTimestamp p c → (t ≡ u) × (o ≡ p)
served_once plans [] run t u r q o p c h k g f = absurd h
served_once plans (e ∷ es) run t u r q o p c (inl h) (inl k) g f = served_same t u r q o p (sym h ∙ k)
served_once plans (e ∷ es) run t u r q o p c (inl h) (inr k) g f = absurd (let a = rises plans e es run t r o c h g u q p c k f in omega (arith, a))
served_once plans (e ∷ es) run t u r q o p c (inr h) (inl k) g f = absurd (let a = rises plans e es run u q p c k f t r o c h g in omega (arith, a))
served_once plans (e ∷ es) run t u r q o p c (inr h) (inr k) g f = served_once plans es run.2 t u r q o p c h k g f

-- What is drawn

draw_grant : (askers : Ticket → List ℕ) (h : List Event) (n c : ℕ) (d : IsDrawn askers h n c) → IsGrant d.response (length (askers d.ticket)) (length d.behind) d.time
draw_grant askers h n c d = grant_is d.response (length (askers d.ticket)) (length d.behind) d.time (behind_small d.ahead d.behind n (askers d.ticket) d.lines) d.granted

pub draw_gives : (askers : Ticket → List ℕ) (h : List Event) (n c : ℕ) (d : IsDrawn askers h n c) → GivesTimestamp d.response c
draw_gives askers h n c d = subst (GivesTimestamp d.response) d.version (grant_gives d.response (length (askers d.ticket)) (length d.behind) d.time (behind_small d.ahead d.behind n (askers d.ticket) d.lines) (draw_grant askers h n c d))

pub draw_given : (askers : Ticket → List ℕ) (h : List Event) (n c : ℕ) → IsDrawn askers h n c → WasGiven h c
draw_given askers h n c d = (d.ticket, d.request, d.response, c, d.taken, draw_gives askers h n c d, omega arith)

same_place : (x y : TsoResponse) (n m a b : ℕ) (s t : Timestamp) → x ≡ y → version_of s ≡ version_of t → IsGrant x n a s → IsGrant y m b t → a ≡ b
same_place x y n m a b s t e v g f =
    let lasts : Some g.last ≡ Some f.last = sym g.here ∙ ap (λ (z : TsoResponse). z.timestamp) e ∙ f.here in
    let last : g.last ≡ f.last = cc in
    let one : version_of g.last ≡ version_of f.last = ap version_of last in
    let low = g.below in let low' = f.below in
    omega (arith, v, one, low, low')

pub draws_place : (plans : ℕ → Plan) (h : List Event) → IsRun plans h → (askers : Ticket → List ℕ) (n m c : ℕ) (d : IsDrawn askers h n c) (e : IsDrawn askers h m c)
    → (d.ticket ≡ e.ticket) × (d.response ≡ e.response) × (length d.behind ≡ length e.behind)
draws_place plans h run askers n m c d e =
    let i = kept plans h run in
    let w = served_once plans h run d.ticket e.ticket d.request e.request d.response e.response c
    (served_time plans h i d.ticket d.request d.response d.taken) (served_time plans h i e.ticket e.request e.response e.taken) (draw_gives askers h n c d) (draw_gives askers h m c e) in
    (w.0, w.1, same_place d.response e.response (length (askers d.ticket)) (length (askers e.ticket)) (length d.behind) (length e.behind) d.time e.time w.1 (d.version ∙ sym e.version) (draw_grant askers h n c d) (draw_grant askers h m c e))

-- in one list two with so many behind them are one
same_middle : (xs ys cs bs : List ℕ) (n m : ℕ) → xs ++ n ∷ cs ≡ ys ++ m ∷ bs → length cs ≡ length bs → n ≡ m
same_middle [] [] cs bs n m e l = cc
same_middle [] (y ∷ ys) cs bs n m e l = absurd (let a = ap length e in let b = length-append ys (m ∷ bs) in omega (arith, a, b, l))
same_middle (x ∷ xs) [] cs bs n m e l = absurd (let a = ap length e in let b = length-append xs (n ∷ cs) in omega (arith, a, b, l))
same_middle (x ∷ xs) (y ∷ ys) cs bs n m e l = same_middle xs ys cs bs n m (cc) l

pub draws_line : (plans : ℕ → Plan) (h : List Event) → IsRun plans h → (askers : Ticket → List ℕ) (n m c : ℕ) → IsDrawn askers h n c → IsDrawn askers h m c → n ≡ m
draws_line plans h run askers n m c d e =
    let w = draws_place plans h run askers n m c d e in
    same_middle d.ahead e.ahead d.behind e.behind n m (sym d.lines ∙ ap askers w.0 ∙ e.lines) w.2

pub answer_drawn : (askers : Ticket → List ℕ) (h : List Event) (o : Oracle) (t : Ticket) (r : TsoRequest) (x : TsoResponse) → Has h (Took t (Tso r) (reply.Tso x)) → askers t ≡ map (λ (a : Asker). a.line) (askers_out o)
    → (a : Asker) (time : Timestamp) → IsAmong (answered x o) (a, Ok time) → IsDrawn askers h a.line (version_of time)
answer_drawn askers h o t r x k e a time m =
    let line_of : Asker → ℕ = λ b. b.line in
    let w = answer_of x (length (askers_out o)) (askers_out o) a (Ok time) m in
    record {
      ticket = t;
      request = r;
      response = x;
      taken = k;
      ahead = map line_of w.ahead;
      behind = map line_of w.behind;
      lines = e ∙ ap (map line_of) w.group_is ∙ map-append line_of w.ahead (a ∷ w.behind);
      time = time;
      granted = ap (λ n. answer x n (length (map line_of w.behind))) (ap length e ∙ length-map (askers_out o) line_of) ∙ ap (answer x (length (askers_out o))) (length-map w.behind line_of) ∙ w.given;
      version = refl;
    }

-- the list around a place
parted : (xs : List ℕ) (i n : ℕ) → slice_get xs i ≡ Some n → (ahead : List ℕ) × (behind : List ℕ) × (xs ≡ ahead ++ n ∷ behind) × (length behind ≡ length xs - (i + 1))
parted [] i n e = absurd (cc)
parted (x ∷ xs) zero n e = ([], xs, cc, omega arith)
parted (x ∷ xs) (suc i) n e = let w = parted xs i n e in let l = w.3 in (x ∷ w.0, w.1, ap (λ ys. x ∷ ys) w.2, omega (arith, l))

pub place_drawn : (askers : Ticket → List ℕ) (h : List Event) (t : Ticket) (r : TsoRequest) (x : TsoResponse) (i n : ℕ) (time : Timestamp) → Has h (Took t (Tso r) (reply.Tso x))
    → slice_get (askers t) i ≡ Some n → answer x (length (askers t)) (length (askers t) - (i + 1)) ≡ Ok time → IsDrawn askers h n (version_of time)
place_drawn askers h t r x i n time k e g = let w = parted (askers t) i n e in record {
  ticket = t;
  request = r;
  response = x;
  taken = k;
  ahead = w.0;
  behind = w.1;
  lines = w.2;
  time = time;
  granted = ap (answer x (length (askers t))) w.3 ∙ g;
  version = refl;
}

pub draw_longer : (askers more : Ticket → List ℕ) (h longer : List Event) (n c : ℕ) → Within h longer → ((t : Ticket) (r : TsoRequest) (o : Reply) → Has h (Took t (Tso r) o) → more t ≡ askers t)
    → IsDrawn askers h n c → IsDrawn more longer n c
draw_longer askers more h longer n c within same d = let e = same d.ticket d.request (reply.Tso d.response) d.taken in record {
  ticket = d.ticket;
  request = d.request;
  response = d.response;
  taken = within _ d.taken;
  ahead = d.ahead;
  behind = d.behind;
  lines = e ∙ d.lines;
  time = d.time;
  granted = ap (λ (xs : List ℕ). answer d.response (length xs) (length d.behind)) e ∙ d.granted;
  version = d.version;
}

draw_in : (askers : Ticket → List ℕ) (h k : List Event) (n c : ℕ) → ((t : Ticket) (r : TsoRequest) (o : TsoResponse) → Has h (Took t (Tso r) (reply.Tso o)) → Has k (Took t (Tso r) (reply.Tso o))) → IsDrawn askers h n c → IsDrawn askers k n c
draw_in askers h k n c took d = record {
  ticket = d.ticket;
  request = d.request;
  response = d.response;
  taken = took d.ticket d.request d.response d.taken;
  ahead = d.ahead;
  behind = d.behind;
  lines = d.lines;
  time = d.time;
  granted = d.granted;
  version = d.version;
}

pub draw_seen : (askers : Ticket → List ℕ) (h : List Event) (n c : ℕ) → IsDrawn askers h n c → IsDrawn askers (seen h) n c
draw_seen askers h n c d = draw_in askers h (seen h) n c (λ t r o g. took_seen h t (Tso r) (reply.Tso o) g) d

pub seen_draw : (askers : Ticket → List ℕ) (h : List Event) (n c : ℕ) → IsDrawn askers (seen h) n c → IsDrawn askers h n c
seen_draw askers h n c d = draw_in askers (seen h) h n c (λ t r o g. seen_took h t (Tso r) (reply.Tso o) g) d
