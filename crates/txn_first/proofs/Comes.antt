-- In which step the outcome of each line came.
use Rattle.std.proofs.Common.{◌≡◌, ◌≢◌, ℕ, ◌+◌, ◌-◌, ◌<◌, ◌≤◌, ◌⊎◌, inl, inr, Bool, true, false, if◌then◌else◌, List, [], ◌∷◌, ◌++◌, Option, Some, None, length, get_or, set, slice_get, nat_eq, nat_lt, refl, sym, ap, ◌∙◌, subst, arith, length-append, length-set}
use Rattle.std.proofs.lemmas.Bool.Decides.{nat_tests}
use Rattle.txn_kv.specs.declared.ticket.Ticket.{Ticket}
use Rattle.txn_kv.specs.declared.reply.Reply.{Reply}
use Rattle.txn_script.specs.Lines.{line_at}
use Rattle.txn_script.specs.declared.line.Line.{Line}
use Rattle.txn_script.specs.declared.line.Line.TheVariants.{Blank, Client, Begin, Put, Commit, Deliver}
use Rattle.txn_report.specs.declared.outcome.Outcome.{Outcome}
use Rattle.txn_report.specs.declared.outcome.Outcome.TheVariants.{Ok, Err, Unfinished, Done, Skipped}
use Rattle.txn_report.specs.declared.outcome.Payload.TheVariants.{Number}
use Rattle.txn_kv.specs.declared.errors.Error.TheVariants.{InternalError}
use Rattle.txn_kv.specs.declared.errors.Internal.TheVariants.{WrongReply}
use Rattle.txn_first.specs.declared.machine.Row.{Row}
use Rattle.txn_first.specs.declared.machine.Row.TheVariants.{Plain, Beginning, Running, Committing}
use Rattle.txn_first.specs.declared.transaction.Status.{Status}
use Rattle.txn_first.specs.declared.transaction.Status.TheVariants.{Active, StartedCommit, Committed}
use Rattle.txn_first.specs.declared.transaction.Sending.{Sending}
use Rattle.txn_first.specs.declared.transaction.Turn.{Turn}
use Rattle.txn_first.specs.Commit.{turned, started}
use Rattle.txn_first.specs.Posting.{position}
use Rattle.txn_first.specs.Lists.{Lists, opened, row_at, row_set, sent_more, sent_by, ended_by, followed, next_of, standing_in, written_in, puts_by, commit_starts, commits_by, handled, reply_at, start_in, begun, advanced, passed_in, waits, delivers_at, stepped}
use Rattle.txn_first.specs.Rowed.{CameIn, AllCame}
use Rattle.txn_first.specs.StandsFor.{delivered_line}
use Rattle.txn_first.proofs.Posts.{one_more, placed_in}
use Rattle.txn_first.proofs.Lists.{or_pushed, or_past, or_last, or_same, or_other}

-- A step opens one line, and then at most one line is over: the newest, or that whose ticket is delivered.

abbrev pub IsEnder : Lists → Line → ℕ → Type 0
IsEnder l line x = (1 ≤ x) × ((x ≡ length l.outcomes + 1) ⊎ (x ≡ delivered_line line))

pub record Marks (l : Lists) (line : Line) (l' : Lists) : Type 0 where
  pub own : ℕ
  pub is : (own ≡ 0) ⊎ (own ≡ length l.outcomes + 1)
  pub after : (l'.ended ≡ l.ended ++ own ∷ []) ⊎ ((x : ℕ) × IsEnder l line x × (l'.ended ≡ set (l.ended ++ own ∷ []) (x - 1) (length l.outcomes + 1)))

-- the lists after a line was opened
pub record Opened (l l' : Lists) (own : ℕ) : Type 0 where
  pub is : (own ≡ 0) ⊎ (own ≡ length l.outcomes + 1)
  pub ended : l'.ended ≡ l.ended ++ own ∷ []
  pub longer : length l'.outcomes ≡ length l.outcomes + 1

opened_marks : (l : Lists) (line : Line) (l' : Lists) (own : ℕ) → Opened l l' own → Marks l line l'
opened_marks l line l' own o = record { own = own; is = o.is; after = inl o.ended }

over_marks : (l : Lists) (line : Line) (l' : Lists) (own x : ℕ) → Opened l l' own → IsEnder l line x → (o : Option Outcome) → Marks l line (ended_by l' x o)
over_marks l line l' own x o e None = opened_marks l line l' own o
over_marks l line l' own x o e (Some out) = record {
  own = own;
  is = o.is;
  after = inr (x, e, ap (λ z. set z (x - 1) (length l'.outcomes)) o.ended ∙ ap (λ n. set (l.ended ++ own ∷ []) (x - 1) n) o.longer);
}

follow_marks : (l : Lists) (line : Line) (l' : Lists) (own x : ℕ) → Opened l l' own → IsEnder l line x → (turn : Turn) → Marks l line (followed l' x turn)
follow_marks l line l' own x o e turn = by_send turn.send
  where
    by_send : (s : Option Sending) → Marks l line (ended_by (sent_by l' x s) x turn.outcome)
    by_send None = over_marks l line l' own x o e turn.outcome
    by_send (Some s) = over_marks l line (sent_more l' x s.to s.request) own x (record { is = o.is; ended = o.ended; longer = o.longer }) e turn.outcome

own_marks : (l : Lists) (line : Line) (row : Row) (o : Outcome) → Marks l line (opened l row o (next_of l))
own_marks l line row o = opened_marks l line (opened l row o (next_of l)) (next_of l) (record { is = inr refl; ended = refl; longer = one_more l o })

puts_marks : (l : Lists) (line : Line) (x : ℕ) (k v : List ℕ) (st : Option Status) → Marks l line (puts_by st l x k v)
puts_marks l line x k v None = own_marks l line Plain Skipped
puts_marks l line x k v (Some Active) = record { own = next_of l; is = inr refl; after = inl (by_row (row_at l.rows x)) }
  where
    by_row : (r : Option Row) → (written_in l x k v r).ended ++ next_of l ∷ [] ≡ l.ended ++ next_of l ∷ []
    by_row None = refl
    by_row (Some Plain) = refl
    by_row (Some Beginning) = refl
    by_row (Some (Running t)) = refl
    by_row (Some (Committing y)) = refl
puts_marks l line x k v (Some StartedCommit) = own_marks l line Plain _
puts_marks l line x k v (Some Committed) = own_marks l line Plain _

starts_marks : (l : Lists) (line : Line) (l' : Lists) (x : ℕ) → Opened l l' 0 → (r : Option Row) → Marks l line (commit_starts l' x r)
starts_marks l line l' x o None = opened_marks l line l' 0 o
starts_marks l line l' x o (Some Plain) = opened_marks l line l' 0 o
starts_marks l line l' x o (Some Beginning) = opened_marks l line l' 0 o
starts_marks l line l' x o (Some (Running t)) =
    follow_marks l line (row_set l' x (Running (started t (length l'.outcomes)).transaction)) 0 (length l'.outcomes)
    (record { is = o.is; ended = o.ended; longer = o.longer })
    ((let a = o.longer in omega arith), inl o.longer)
    (started t (length l'.outcomes)).turn
starts_marks l line l' x o (Some (Committing y)) = opened_marks l line l' 0 o

commits_marks : (l : Lists) (line : Line) (x : ℕ) (st : Option Status) → Marks l line (commits_by st l x)
commits_marks l line x None = own_marks l line Plain Skipped
commits_marks l line x (Some Active) = starts_marks l line (opened l (Committing x) Unfinished 0) x (record { is = inl refl; ended = refl; longer = one_more l Unfinished }) (row_at (opened l (Committing x) Unfinished 0).rows x)
commits_marks l line x (Some StartedCommit) = starts_marks l line (opened l (Committing x) Unfinished 0) x (record { is = inl refl; ended = refl; longer = one_more l Unfinished }) (row_at (opened l (Committing x) Unfinished 0).rows x)
commits_marks l line x (Some Committed) = own_marks l line Plain _

passed_marks : (l : Lists) (line : Line) (l' : Lists) (x : ℕ) (reply : Reply) → Opened l l' (next_of l) → IsEnder l line x → (r : Option Row) → Marks l line (passed_in l' x reply r)
passed_marks l line l' x reply o e None = opened_marks l line l' (next_of l) o
passed_marks l line l' x reply o e (Some Plain) = opened_marks l line l' (next_of l) o
passed_marks l line l' x reply o e (Some Beginning) = by_start (start_in reply)
  where
    kept : (row : Row) → Opened l (row_set l' x row) (next_of l)
    kept row = record { is = o.is; ended = o.ended; longer = o.longer }

    by_start : (s : Option ℕ) → Marks l line (begun l' x s)
    by_start None = over_marks l line (row_set l' x Plain) (next_of l) x (kept Plain) e (Some (Err (InternalError WrongReply)))
    by_start (Some s) = over_marks l line (row_set l' x (Running (record { start = s; status = Active; put = None; call = None }))) (next_of l) x (kept (Running (record { start = s; status = Active; put = None; call = None }))) e (Some (Ok (Number s)))
passed_marks l line l' x reply o e (Some (Running t)) = opened_marks l line l' (next_of l) o
passed_marks l line l' x reply o e (Some (Committing y)) = by_row (row_at l'.rows y)
  where
    by_row : (r : Option Row) → Marks l line (advanced l' y x reply r)
    by_row None = opened_marks l line l' (next_of l) o
    by_row (Some Plain) = opened_marks l line l' (next_of l) o
    by_row (Some Beginning) = opened_marks l line l' (next_of l) o
    by_row (Some (Running t)) = follow_marks l line (row_set l' y (Running (turned t reply).transaction)) (next_of l) x (record { is = o.is; ended = o.ended; longer = o.longer }) e (turned t reply).turn
    by_row (Some (Committing z)) = opened_marks l line l' (next_of l) o

delivers_marks : (l : Lists) (t : Ticket) (o : Option ℕ) → position l.tickets t ≡ o → Marks l (Deliver t) (delivers_at o l t)
delivers_marks l t None e = own_marks l (Deliver t) Plain Skipped
delivers_marks l t (Some p) e = by_test (waits (slice_get l.letters p))
  where
    by_test : (b : Bool) → Marks l (Deliver t) (if b then passed_in (handled (opened l Plain Done (next_of l)) p t) t.line (reply_at l p) (row_at (handled (opened l Plain Done (next_of l)) p t).rows t.line) else opened l Plain Skipped (next_of l))
    by_test true = passed_marks l (Deliver t) (handled (opened l Plain Done (next_of l)) p t) t.line (reply_at l p) (record { is = inr refl; ended = refl; longer = one_more l Done }) ((placed_in l.tickets t p e).0, inr refl) (row_at (handled (opened l Plain Done (next_of l)) p t).rows t.line)
    by_test false = own_marks l (Deliver t) Plain Skipped

pub stepped_marks : (l : Lists) (line : Line) → Marks l line (stepped l line)
stepped_marks l Blank = own_marks l Blank Plain Done
stepped_marks l Client = own_marks l Client Plain _
stepped_marks l (Begin client) = record { own = 0; is = inl refl; after = inl refl }
stepped_marks l (Put x k v) = puts_marks l (Put x k v) x k v (standing_in (row_at l.rows x))
stepped_marks l (Commit x) = commits_marks l (Commit x) x (standing_in (row_at l.rows x))
stepped_marks l (Deliver t) = delivers_marks l t (position l.tickets t) refl

-- One line more.

came_before : (line : Line) (ls : List Line) (i e : ℕ) → e ≤ length ls → CameIn ls i e → CameIn (line ∷ ls) i e
came_before line ls i e small (inl own) = inl own
came_before line ls i e small (inr c) =
    let t : nat_eq (length ls + 1) e ≡ false = grind (arith, nat_tests) in
    inr (c.0, ap (λ (b : Bool). if b then Some line else line_at ls e) t ∙ c.1, c.2)

came_opened : (line : Line) (ls : List Line) (ended : List ℕ) (own : ℕ) → length ended ≡ length ls → ((i : ℕ) → get_or ended i 0 ≤ length ls) → (own ≡ 0) ⊎ (own ≡ length ls + 1) → AllCame ls ended → AllCame (line ∷ ls) (ended ++ own ∷ [])
came_opened line ls ended own counted past is came i h = inside (nat_lt i (length ended)) refl
  where
    at_end : (b : Bool) → nat_eq i (length ended) ≡ b → nat_lt i (length ended) ≡ false → CameIn (line ∷ ls) i (get_or (ended ++ own ∷ []) i 0)
    at_end true g f =
        let same : length ended ≡ i = grind (arith, nat_tests) in
        let v : get_or (ended ++ own ∷ []) i 0 ≡ own = subst (λ k. get_or (ended ++ own ∷ []) k 0 ≡ own) same (or_last ended own 0) in
        elim is [
          | inl w ↦ absurd (h (v ∙ w))
          | inr w ↦ inl (v ∙ w ∙ ap (λ k. k + 1) (sym counted ∙ same))
        ]
    at_end false g f =
        let l = length-append ended (own ∷ []) in
        let far : length (ended ++ own ∷ []) ≤ i = grind (arith, nat_tests) in
        absurd (h (or_past (ended ++ own ∷ []) 0 i far))

    inside : (b : Bool) → nat_lt i (length ended) ≡ b → CameIn (line ∷ ls) i (get_or (ended ++ own ∷ []) i 0)
    inside true f =
        let within : i < length ended = grind (arith, nat_tests) in
        let v = or_pushed ended own 0 i within in
        subst (λ e. CameIn (line ∷ ls) i e) (sym v) (came_before line ls i (get_or ended i 0) (past i) (came i (λ q. h (v ∙ q))))
    inside false f = at_end (nat_eq i (length ended)) refl f

came_ender : (line : Line) (ls : List Line) (i x : ℕ) → i ≡ x - 1 → 1 ≤ x → (x ≡ length ls + 1) ⊎ (x ≡ delivered_line line) → CameIn (line ∷ ls) i (length ls + 1)
came_ender line ls i x at one (inl own) = inl (omega arith)
came_ender Blank ls i x at one (inr d) = absurd (omega arith)
came_ender Client ls i x at one (inr d) = absurd (omega arith)
came_ender (Begin client) ls i x at one (inr d) = absurd (omega arith)
came_ender (Put y k v) ls i x at one (inr d) = absurd (omega arith)
came_ender (Commit y) ls i x at one (inr d) = absurd (omega arith)
came_ender (Deliver t) ls i x at one (inr d) =
    let s : nat_eq (length ls + 1) (length ls + 1) ≡ true = grind (arith, nat_tests) in
    inr (t, ap (λ (b : Bool). if b then Some (Deliver t) else line_at ls (length ls + 1)) s, omega arith)

came_set : (line : Line) (ls : List Line) (ended : List ℕ) (x : ℕ) → 1 ≤ x → (x ≡ length ls + 1) ⊎ (x ≡ delivered_line line) → AllCame (line ∷ ls) ended → AllCame (line ∷ ls) (set ended (x - 1) (length ls + 1))
came_set line ls ended x one which came i h = by_place (nat_eq i (x - 1)) refl
  where
    there : (b : Bool) → nat_lt i (length ended) ≡ b → i ≡ x - 1 → CameIn (line ∷ ls) i (get_or (set ended (x - 1) (length ls + 1)) i 0)
    there true f same =
        let within : x - 1 < length ended = grind (arith, nat_tests) in
        let v : get_or (set ended (x - 1) (length ls + 1)) i 0 ≡ length ls + 1 = subst (λ k. get_or (set ended (x - 1) (length ls + 1)) k 0 ≡ length ls + 1) (sym same) (or_same ended (x - 1) (length ls + 1) 0 within) in
        subst (λ e. CameIn (line ∷ ls) i e) (sym v) (came_ender line ls i x same one which)
    there false f same =
        let far : length (set ended (x - 1) (length ls + 1)) ≤ i = (let s = length-set ended (x - 1) (length ls + 1) in grind (arith, nat_tests)) in
        absurd (h (or_past (set ended (x - 1) (length ls + 1)) 0 i far))

    by_place : (b : Bool) → nat_eq i (x - 1) ≡ b → CameIn (line ∷ ls) i (get_or (set ended (x - 1) (length ls + 1)) i 0)
    by_place true f = there (nat_lt i (length ended)) refl (grind (arith, nat_tests))
    by_place false f =
        let apart : i ≢ x - 1 = grind (arith, nat_tests) in
        let v = or_other ended (x - 1) i (length ls + 1) 0 apart in
        subst (λ e. CameIn (line ∷ ls) i e) (sym v) (came i (λ q. h (v ∙ q)))

pub came_stepped : (l l' : Lists) (line : Line) (ls : List Line) → length l.outcomes ≡ length ls → length l.ended ≡ length l.outcomes → ((i : ℕ) → get_or l.ended i 0 ≤ length l.outcomes) → Marks l line l' → AllCame ls l.ended → AllCame (line ∷ ls) l'.ended
came_stepped l l' line ls told counted past m came = by_after m.after
  where
    opened_so : AllCame (line ∷ ls) (l.ended ++ m.own ∷ [])
    opened_so = came_opened line ls l.ended m.own (counted ∙ told) (λ i. subst (λ n. get_or l.ended i 0 ≤ n) told (past i)) (elim m.is [ inl z ↦ inl z | inr z ↦ inr (z ∙ ap (λ n. n + 1) told) ]) came

    by_after : (l'.ended ≡ l.ended ++ m.own ∷ []) ⊎ ((x : ℕ) × IsEnder l line x × (l'.ended ≡ set (l.ended ++ m.own ∷ []) (x - 1) (length l.outcomes + 1))) → AllCame (line ∷ ls) l'.ended
    by_after (inl e) = subst (λ es. AllCame (line ∷ ls) es) (sym e) opened_so
    by_after (inr a) =
        let which : (a.0 ≡ length ls + 1) ⊎ (a.0 ≡ delivered_line line) = elim a.1.1 [ inl z ↦ inl (z ∙ ap (λ n. n + 1) told) | inr z ↦ inr z ] in
        let e : l'.ended ≡ set (l.ended ++ m.own ∷ []) (a.0 - 1) (length ls + 1) = a.2 ∙ ap (λ n. set (l.ended ++ m.own ∷ []) (a.0 - 1) (n + 1)) told in
        subst (λ es. AllCame (line ∷ ls) es) (sym e) (came_set line ls (l.ended ++ m.own ∷ []) a.0 a.1.0 which opened_so)
