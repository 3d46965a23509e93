-- Each timestamp that is given is above the store's last one, which never falls. So none is given twice.
use Rattle.std.proofs.Common.{◌≡◌, ℕ, ◌<◌, ◌≤◌, inl, inr, List, [], ◌∷◌, sym, subst, arith}
use Rattle.txn_kv.specs.declared.ticket.Ticket.{Ticket}
use Rattle.txn_kv.specs.declared.request.Request.TheVariants.{Tso}
use Rattle.txn_kv.specs.declared.request.cluster.TsoRequest.{TsoRequest}
use Rattle.txn_kv.specs.declared.reply.Reply.TheVariants as reply
use Rattle.txn_kv.specs.declared.reply.cluster.TsoResponse.{TsoResponse}
use Rattle.txn_history.specs.Event.{Event, Has}
use Rattle.txn_history.specs.Event.Event.{Sent, Served, Took}
use Rattle.txn_history.specs.Licence.{GivesTimestamp, WasGiven}
use Rattle.txn_history.specs.Plan.{Plan}
use Rattle.txn_law.specs.Part.{CameSince, IsPart}
use Rattle.txn_law.specs.Run.{IsRun, IsUnused, store_after}
use Rattle.txn_law.proofs.Clocks.{last_stays}
use Rattle.txn_law.proofs.Kept.{kept, passes}
use Rattle.txn_law.proofs.Taken.{given_last, served_time}
use Rattle.txn_law.proofs.Replies.{timestamps_rise}
use Rattle.txn_law.proofs.StaysGone.{law_since, run_part}

last_on : (es : List Event) (e : Event) → (store_after es).last ≤ (store_after (e ∷ es)).last
last_on es (Sent t r) = omega arith
last_on es (Served t r o) = last_stays (store_after es) r
last_on es e = let z = (passes es e tt).last in omega (arith, z)

last_of_part : (es part : List Event) → IsPart es part → (store_after part).last ≤ (store_after es).last
last_of_part [] part h = subst (λ p. (store_after p).last ≤ (store_after []).last) (sym h) (omega arith)
last_of_part (e ∷ es) part (inl h) = subst (λ p. (store_after p).last ≤ (store_after (e ∷ es)).last) (sym h) (omega arith)
last_of_part (e ∷ es) part (inr h) = let a = last_of_part es part h in let b = last_on es e in omega (arith, a, b)

-- what a Tso that is served now gives is above the last timestamp
above_last : (plans : ℕ → Plan) (es : List Event) (t : Ticket) (r : TsoRequest) (o : TsoResponse) (c : ℕ) → IsRun plans (Served t (Tso r) (reply.Tso o) ∷ es) → GivesTimestamp o c → (store_after es).last < c
above_last plans es t r o c run g = (timestamps_rise (store_after es) r o c (sym run.0.1) g).0

served_at_most : (plans : ℕ → Plan) (es : List Event) → IsRun plans es → (t : Ticket) (r : TsoRequest) (o : TsoResponse) (c : ℕ) → Has es (Served t (Tso r) (reply.Tso o)) → GivesTimestamp o c → c ≤ (store_after es).last
served_at_most plans es run t r o c h g = ((kept plans es run).means t (Tso r) (reply.Tso o) h c g).1

pub law_at_most : (plans : ℕ → Plan) (es : List Event) → IsRun plans es → (t : Ticket) (r : TsoRequest) (o : TsoResponse) → Has es (Took t (Tso r) (reply.Tso o)) → (c : ℕ) → GivesTimestamp o c → c ≤ (store_after es).last
law_at_most plans es run t r o h c g = served_at_most plans es run t r o c (served_time plans es (kept plans es run) t r o h) g

-- the newer of two is above the older
rises : (plans : ℕ → Plan) (e : Event) (es : List Event) → IsRun plans (e ∷ es) → (t : Ticket) (r : TsoRequest) (o : TsoResponse) (c : ℕ) → e ≡ Served t (Tso r) (reply.Tso o) → GivesTimestamp o c →
    (u : Ticket) (q : TsoRequest) (p : TsoResponse) (d : ℕ) → Has es (Served u (Tso q) (reply.Tso p)) → GivesTimestamp p d → d < c
rises plans e es run t r o c h g u q p d k f =
    let a = above_last plans es t r o c (subst (λ x. IsRun plans (x ∷ es)) h run) g in
    let b = served_at_most plans es run.2 u q p d k f in
    omega (arith, a, b)

served_apart : (plans : ℕ → Plan) (es : List Event) → IsRun plans es → (t u : Ticket) (r q : TsoRequest) (o p : TsoResponse) → (t ≡ u → ⊥) →
    Has es (Served t (Tso r) (reply.Tso o)) → Has es (Served u (Tso q) (reply.Tso p)) → (c : ℕ) → GivesTimestamp o c → GivesTimestamp p c → ⊥
served_apart plans [] run t u r q o p apart h k c g f = h
served_apart plans (e ∷ es) run t u r q o p apart (inl h) (inl k) c g f = apart (cc)
served_apart plans (e ∷ es) run t u r q o p apart (inl h) (inr k) c g f = let a = rises plans e es run t r o c h g u q p c k f in omega (arith, a)
served_apart plans (e ∷ es) run t u r q o p apart (inr h) (inl k) c g f = let a = rises plans e es run u q p c k f t r o c h g in omega (arith, a)
served_apart plans (e ∷ es) run t u r q o p apart (inr h) (inr k) c g f = served_apart plans es run.2 t u r q o p apart h k c g f

pub law_once : (plans : ℕ → Plan) (es : List Event) → IsRun plans es → (t u : Ticket) (r q : TsoRequest) (o p : TsoResponse) → Has es (Took t (Tso r) (reply.Tso o)) → Has es (Took u (Tso q) (reply.Tso p)) → (t ≡ u → ⊥) →
    (c : ℕ) → GivesTimestamp o c → GivesTimestamp p c → ⊥
law_once plans es run t u r q o p h k apart =
    let i = kept plans es run in
    served_apart plans es run t u r q o p apart (served_time plans es i t r o h) (served_time plans es i u q p k)

pub law_later : (plans : ℕ → Plan) (es first : List Event) → IsRun plans es → IsPart es first → (t : Ticket) (r : TsoRequest) (o : TsoResponse) → IsUnused first t → Has es (Took t (Tso r) (reply.Tso o)) →
    (c d : ℕ) → GivesTimestamp o c → WasGiven first d → d < c
law_later plans es first run part t r o unused h c d g w =
    let came : CameSince es first (Served t (Tso r) (reply.Tso o)) = law_since plans es first run part t (Tso r) (reply.Tso o) unused h (λ e. cc) in
    let a = above_last plans came.0 t r o c (run_part plans es (Served t (Tso r) (reply.Tso o) ∷ came.0) run came.1) g in
    let b = last_of_part came.0 first came.2 in
    let f = given_last plans first (kept plans first (run_part plans es first run part)) d w in
    omega (arith, a, b, f)
