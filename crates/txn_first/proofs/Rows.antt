-- Rows of a machine, read and written back.
use Rattle.std.proofs.Common.{◌≡◌, ℕ, zero, suc, ◌-◌, ◌<◌, ◌≤◌, List, [], ◌∷◌, Some, length, set, get_or, refl, sym, ap, ◌∙◌, subst, arith}
use Rattle.std.proofs.lemmas.Option.{slice_get-get_or}
use Rattle.txn_kv.specs.declared.reply.Reply.{Reply}
use Rattle.txn_kv.specs.declared.request.Request.{Request}
use Rattle.txn_kv.specs.declared.request.Request.TheVariants.{Tso}
use Rattle.txn_model.specs.Store.{Store}
use Rattle.txn_model.specs.Table.{CanServe}
use Rattle.txn_report.specs.declared.report.SentNote.{SentNote}
use Rattle.txn_first.specs.declared.transaction.Transaction.{Transaction}
use Rattle.txn_first.specs.declared.transaction.Turn.{Turn}
use Rattle.txn_first.specs.declared.machine.Row.{Row}
use Rattle.txn_first.specs.declared.machine.Row.TheVariants.{Plain, Beginning, Running, Committing}
use Rattle.txn_first.specs.Commit.{Step, started, turned}
use Rattle.txn_first.specs.Lists.{Lists, row_at, row_set, written, written_in, commit_starts, commit_begun, advanced, followed, request_at, IsSound, AllAskOne, AsksOne}

-- what is written where it stands already
pub set_here : {X : Type 0} (xs : List X) (i : ℕ) (x : X) → x ≡ get_or xs i x → set xs i x ≡ xs
set_here [] i x e = refl
set_here (y ∷ xs) zero x e = ap (λ z. z ∷ xs) e
set_here (y ∷ xs) (suc i) x e = ap (λ zs. y ∷ zs) (set_here xs i x e)

pub row_here : (rows : List Row) (x : ℕ) (r : Row) → 1 ≤ x → x - 1 < length rows → r ≡ get_or rows (x - 1) r → row_at rows x ≡ Some r
row_here rows zero r one below e = absurd (omega arith)
row_here rows (suc i) r one below e =
    let same : suc i - 1 ≡ i = omega arith in
    let here : i < length rows = omega arith in
    let item : r ≡ get_or rows i r = subst (λ j. r ≡ get_or rows j r) same e in
    slice_get-get_or rows i r here ∙ ap (λ z. Some z) (sym item)

not_running_written : (l : Lists) (x : ℕ) (k v : List ℕ) (r : Row) → ((t : Transaction) → r ≡ Running t → ⊥) → written_in l x k v (Some r) ≡ l
not_running_written l x k v Plain n = refl
not_running_written l x k v Beginning n = refl
not_running_written l x k v (Running t) n = absurd (n t refl)
not_running_written l x k v (Committing y) n = refl

pub unwritten : (l : Lists) (x : ℕ) (k v : List ℕ) (r : Row) → 1 ≤ x → x - 1 < length l.rows → r ≡ get_or l.rows (x - 1) r → ((t : Transaction) → r ≡ Running t → ⊥) → written l x k v ≡ l
unwritten l x k v r one below e n = ap (λ o. written_in l x k v o) (row_here l.rows x r one below e) ∙ not_running_written l x k v r n

not_running_commits : (l : Lists) (x : ℕ) (r : Row) → ((t : Transaction) → r ≡ Running t → ⊥) → commit_starts l x (Some r) ≡ l
not_running_commits l x Plain n = refl
not_running_commits l x Beginning n = refl
not_running_commits l x (Running t) n = absurd (n t refl)
not_running_commits l x (Committing y) n = refl

pub uncommitted : (l : Lists) (x : ℕ) (r : Row) → 1 ≤ x → x - 1 < length l.rows → r ≡ get_or l.rows (x - 1) r → ((t : Transaction) → r ≡ Running t → ⊥) → commit_begun l x ≡ l
uncommitted l x r one below e n = ap (λ o. commit_starts l x o) (row_here l.rows x r one below e) ∙ not_running_commits l x r n

-- a transaction that runs begins to commit
pub commits_on : (l : Lists) (x line : ℕ) (r : Row) (t u : Transaction) (turn : Turn) → 1 ≤ x → x - 1 < length l.rows → r ≡ get_or l.rows (x - 1) r → r ≡ Running t → line ≡ length l.outcomes → ◌≡◌ {A = Step} (record { transaction = u; turn = turn }) (started t line)
    → followed (row_set l x (Running u)) line turn ≡ commit_begun l x
commits_on l x line r t u turn one below e is newest s =
    let here : row_at l.rows x ≡ Some (Running t) = row_here l.rows x r one below e ∙ ap (λ z. Some z) is in
    ap (λ (z : Step). followed (row_set l x (Running z.transaction)) line z.turn) s
    ∙ ap (λ n. followed (row_set l x (Running (started t n).transaction)) n (started t n).turn) newest
    ∙ sym (ap (λ o. commit_starts l x o) here)

not_running_advances : (l : Lists) (x line : ℕ) (reply : Reply) (r : Row) → ((t : Transaction) → r ≡ Running t → ⊥) → advanced l x line reply (Some r) ≡ l
not_running_advances l x line reply Plain n = refl
not_running_advances l x line reply Beginning n = refl
not_running_advances l x line reply (Running t) n = absurd (n t refl)
not_running_advances l x line reply (Committing y) n = refl

pub unadvanced : (l : Lists) (x line : ℕ) (reply : Reply) (r : Row) → 1 ≤ x → x - 1 < length l.rows → r ≡ get_or l.rows (x - 1) r → ((t : Transaction) → r ≡ Running t → ⊥) → advanced l x line reply (row_at l.rows x) ≡ l
unadvanced l x line reply r one below e n = ap (λ o. advanced l x line reply o) (row_here l.rows x r one below e) ∙ not_running_advances l x line reply r n

-- a transaction that runs takes a reply
pub advances : (l : Lists) (x line : ℕ) (reply : Reply) (r : Row) (t u : Transaction) (turn : Turn) → 1 ≤ x → x - 1 < length l.rows → r ≡ get_or l.rows (x - 1) r → r ≡ Running t → ◌≡◌ {A = Step} (record { transaction = u; turn = turn }) (turned t reply)
    → followed (row_set l x (Running u)) line turn ≡ advanced l x line reply (row_at l.rows x)
advances l x line reply r t u turn one below e is s =
    let here : row_at l.rows x ≡ Some (Running t) = row_here l.rows x r one below e ∙ ap (λ z. Some z) is in
    ap (λ (z : Step). followed (row_set l x (Running z.transaction)) line z.turn) s ∙ sym (ap (λ o. advanced l x line reply o) here)

-- Requests at their places.

pub request_here : (sent : List SentNote) (p : ℕ) (s : SentNote) → p < length sent → s ≡ get_or sent p s → request_at sent p ≡ s.request
request_here [] p s below e = absurd (omega arith)
request_here (x ∷ sent) zero s below e = ap (λ z. z.request) (sym e)
request_here (x ∷ sent) (suc p) s below e = request_here sent p s (omega arith) e

asks_at : (sent : List SentNote) (p : ℕ) → AllAskOne sent → AsksOne (request_at sent p)
asks_at [] p a = refl
asks_at (s ∷ sent) zero a = a.0
asks_at (s ∷ sent) (suc p) a = asks_at sent p a.1

can_serve : (st : Store) (r : Request) (n : ℕ) → AsksOne r → st.last ≤ n → n ≤ 65536 → st.clock ≡ 0 → CanServe st r
can_serve st (Tso r) n a last few clock = record { some = omega arith; few = omega arith; last_bits = omega arith; clock_bits = omega arith }
can_serve st r n a last few clock = tt

pub sound_serves : (l : Lists) (p : ℕ) → IsSound l → CanServe l.store (request_at l.sent p)
sound_serves l p s = can_serve l.store (request_at l.sent p) (length l.outcomes) (asks_at l.sent p s.asks) s.last s.few s.clock

pub sound_serves_at : (l : Lists) (p : ℕ) (s : SentNote) → IsSound l → p < length l.sent → s ≡ get_or l.sent p s → CanServe l.store s.request
sound_serves_at l p s sound below e = subst (λ r. CanServe l.store r) (request_here l.sent p s below e) (sound_serves l p sound)
