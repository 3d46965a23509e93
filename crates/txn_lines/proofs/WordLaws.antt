-- What is read of a word has a form, and what has a form is read.
use Rattle.std.proofs.Common.{◌≡◌, ℕ, ◌<◌, ◌⊎◌, Bool, true, false, eqb, List, [], ◌∷◌, ◌++◌, length, Option, Some, refl, ap, subst, ◌∙◌, arith, lit<, inl, inr}
use Rattle.std.proofs.lemmas.Bool.{cases_Bool, eqb-true}
use Rattle.std.specs.Prelude.{bytes_eq}
use Rattle.std.proofs.lemmas.Slice.Eq.{bytes_eq-Decides}
use Rattle.txn_kv.specs.declared.ticket.Ticket.{Ticket}
use Rattle.txn_lines.specs.Grammar.{IsNumber, IsByteString, IsTicket, Form, exactly, number, byte_string, ticket, IsWordOf, AreWordsOf}
use Rattle.txn_lines.specs.Reading.{◌>>=◌, Words, cut_at, number_in, string_in, behind_dot, ticket_in, next_number, next_string, next_ticket, next_exactly, ended, number_alone, ticket_alone, string_alone, strings_alone}
use Rattle.txn_lines.proofs.Options.{bind_some, test_passed, some_is}
use Rattle.txn_lines.proofs.Cuts.{IsFree, IsFree-append, IsCut, cut_is, cut_first}
use Rattle.txn_lines.proofs.Numbers.{number_takes, number_again, free_number, number_no_h}
use Rattle.txn_lines.proofs.Strings.{string_takes, string_again, free_string}
use Rattle.txn_lines.proofs.Splits.{AreFree}

-- ---- tickets

with_h : (digits : List ℕ) → behind_dot (104 ∷ digits) ≡ (true, digits)
unfolding behind_dot
with_h digits = refl

without_h : (digits : List ℕ) (n : ℕ) → IsNumber digits n → behind_dot digits ≡ (false, digits)
unfolding behind_dot
without_h digits n is = rw (number_no_h digits n is) refl

-- what stands behind a dot is what is left, behind an h or not
abbrev IsBehind : List ℕ → Bool × List ℕ → Type 0
IsBehind word parts = ((parts.0 ≡ false) × (word ≡ parts.1)) ⊎ ((parts.0 ≡ true) × (word ≡ 104 ∷ parts.1))

behind_is : (word : List ℕ) → IsBehind word (behind_dot word)
unfolding behind_dot
behind_is [] = inl (refl, refl)
behind_is (b ∷ bs) =
    elim (cases_Bool (eqb b 104)) [
      | inl is ↦ rw is (inr (refl, ap (λ (x : ℕ). x ∷ bs) (eqb-true b 104 is)))
      | inr not_is ↦ rw not_is (inl (refl, refl))
    ]

-- a word that is cut in two, of which both have numbers
ticket_made : (word line rest : List ℕ) (l n : ℕ) → IsNumber line l → IsNumber (behind_dot rest).1 n → word ≡ line ++ 46 ∷ rest → IsTicket word (record { line = l; beat = (behind_dot rest).0; number = n })
ticket_made word line rest l n is_line is_number parts = (
  line,
  (behind_dot rest).1,
  is_line,
  is_number,
  elim (behind_is rest) [
    | inl calls ↦ inl (calls.0, parts ∙ ap (λ (r : List ℕ). line ++ 46 ∷ r) calls.1)
    | inr beats ↦ inr (beats.0, parts ∙ ap (λ (r : List ℕ). line ++ 46 ∷ r) beats.1)
  ],
)

ticket_takes : (word : List ℕ) (t : Ticket) → ticket_in word ≡ Some t → IsTicket word t
unfolding ticket_in
ticket_takes word t e =
    let cut = bind_some (cut_at 46 word) (λ parts. number_in parts.0 >>= λ line. number_in (behind_dot parts.1).1 >>= λ n. Some (record { line = line; beat = (behind_dot parts.1).0; number = n })) t e in
    let rest = behind_dot cut.0.1 in
    let line = bind_some (number_in cut.0.0) (λ line. number_in rest.1 >>= λ n. Some (record { line = line; beat = rest.0; number = n })) t cut.2 in
    let n = bind_some (number_in rest.1) (λ n. Some (record { line = line.0; beat = rest.0; number = n })) t line.2 in
    let parts : IsFree 46 cut.0.0 × (word ≡ cut.0.0 ++ 46 ∷ cut.0.1) = subst (λ (found : Option (List ℕ × List ℕ)). IsCut 46 word found) cut.1 (cut_is 46 word) in
    let made : Ticket = record { line = line.0; beat = rest.0; number = n.0 } in
    subst (λ (u : Ticket). IsTicket word u) (some_is made t n.2) (ticket_made word cut.0.0 cut.0.1 line.0 n.0 (number_takes cut.0.0 line.0 line.1) (number_takes rest.1 n.0 n.1) parts.1)

-- a word that is cut in two, of which both have the numbers of a ticket, is read as that
ticket_from : (word line rest digits : List ℕ) (t : Ticket) → IsNumber line t.line → IsNumber digits t.number → behind_dot rest ≡ (t.beat, digits) → word ≡ line ++ 46 ∷ rest → ticket_in word ≡ Some t
unfolding ticket_in
ticket_from word line rest digits t is_line is_number behind parts =
    let cut : cut_at 46 word ≡ Some (line, rest) = rw parts (cut_first 46 line rest (free_number 46 line t.line (lit< tt) is_line)) in
    rw (cut, number_again line t.line is_line, behind, number_again digits t.number is_number) refl

ticket_again : (word : List ℕ) (t : Ticket) → IsTicket word t → ticket_in word ≡ Some t
ticket_again word t (line, digits, is_line, is_number, inl calls) =
    ticket_from word line digits digits t is_line is_number (rw calls.0 (without_h digits t.number is_number)) calls.1
ticket_again word t (line, digits, is_line, is_number, inr beats) =
    ticket_from word line (104 ∷ digits) digits t is_line is_number (rw beats.0 (with_h digits)) beats.1

free_ticket : (word : List ℕ) (t : Ticket) → IsTicket word t → IsFree 32 word
free_ticket word t (line, digits, is_line, is_number, inl calls) =
    rw calls.1 (IsFree-append 32 line (46 ∷ digits) (free_number 32 line t.line (lit< tt) is_line) (refl, free_number 32 digits t.number (lit< tt) is_number))
free_ticket word t (line, digits, is_line, is_number, inr beats) =
    rw beats.1 (IsFree-append 32 line (46 ∷ 104 ∷ digits) (free_number 32 line t.line (lit< tt) is_line) (refl, (refl, free_number 32 digits t.number (lit< tt) is_number)))

-- ---- words without a space

abbrev pub HasNoSpace : Form → Type 0
HasNoSpace (exactly text) = IsFree 32 text
HasNoSpace (number n) = Unit {0}
HasNoSpace (byte_string bytes) = Unit {0}
HasNoSpace (ticket t) = Unit {0}

abbrev pub HaveNoSpace : List Form → Type 0
HaveNoSpace [] = Unit {0}
HaveNoSpace (f ∷ fs) = HasNoSpace f × HaveNoSpace fs

free_word : (f : Form) (word : List ℕ) → HasNoSpace f → IsWordOf f word → IsFree 32 word
free_word (exactly text) word free is = rw is free
free_word (number n) word free is = free_number 32 word n (lit< tt) is
free_word (byte_string bytes) word free is = free_string word bytes is
free_word (ticket t) word free is = free_ticket word t is

pub free_words : (fs : List Form) (words : Words) → HaveNoSpace fs → AreWordsOf fs words → AreFree 32 words
free_words [] [] free are = tt
free_words [] (w ∷ ws) free are = absurd are
free_words (f ∷ fs) [] free are = absurd are
free_words (f ∷ fs) (w ∷ ws) free are = (free_word f w free.0 are.0, free_words fs ws free.1 are.1)

-- ---- the next word

-- what is read next has this form, and what is of this form is read next
pub number_then : (fs : List Form) (words : Words) (n : ℕ) (rest : Words) → next_number words ≡ Some (n, rest) → AreWordsOf fs rest → AreWordsOf (number n ∷ fs) words
unfolding next_number
number_then fs [] n rest e h = absurd cc
number_then fs (w ∷ ws) n rest e h =
    let v = bind_some (number_in w) (λ m. Some (m, ws)) (n, rest) e in
    let is = some_is (v.0, ws) (n, rest) v.2 in
    let n-is : v.0 ≡ n = ap (λ (p : ℕ × Words). p.0) is in
    let r-is : ws ≡ rest = ap (λ (p : ℕ × Words). p.1) is in
    (subst (λ (k : ℕ). IsNumber w k) n-is (number_takes w v.0 v.1), rw r-is h)

pub number_next : (fs : List Form) (words : Words) (n : ℕ) → AreWordsOf (number n ∷ fs) words → (rest : Words) × (next_number words ≡ Some (n, rest)) × AreWordsOf fs rest
unfolding next_number
number_next fs [] n h = absurd h
number_next fs (w ∷ ws) n h = (ws, rw (number_again w n h.0) refl, h.1)

pub string_then : (fs : List Form) (words : Words) (bytes : List ℕ) (rest : Words) → next_string words ≡ Some (bytes, rest) → AreWordsOf fs rest → AreWordsOf (byte_string bytes ∷ fs) words
unfolding next_string
string_then fs [] bytes rest e h = absurd cc
string_then fs (w ∷ ws) bytes rest e h =
    let v = bind_some (string_in w) (λ m. Some (m, ws)) (bytes, rest) e in
    let is = some_is (v.0, ws) (bytes, rest) v.2 in
    let b-is : v.0 ≡ bytes = ap (λ (p : List ℕ × Words). p.0) is in
    let r-is : ws ≡ rest = ap (λ (p : List ℕ × Words). p.1) is in
    (subst (λ (k : List ℕ). IsByteString w k) b-is (string_takes w v.0 v.1), rw r-is h)

pub string_next : (fs : List Form) (words : Words) (bytes : List ℕ) → AreWordsOf (byte_string bytes ∷ fs) words → (rest : Words) × (next_string words ≡ Some (bytes, rest)) × AreWordsOf fs rest
unfolding next_string
string_next fs [] bytes h = absurd h
string_next fs (w ∷ ws) bytes h = (ws, rw (string_again w bytes h.0) refl, h.1)

pub string_shortens : (words : Words) (bytes : List ℕ) (rest : Words) → next_string words ≡ Some (bytes, rest) → length rest < length words
unfolding next_string
string_shortens [] bytes rest e = absurd cc
string_shortens (w ∷ ws) bytes rest e =
    let v = bind_some (string_in w) (λ m. Some (m, ws)) (bytes, rest) e in
    let is = some_is (v.0, ws) (bytes, rest) v.2 in
    let rest_is : ws ≡ rest = ap (λ (p : List ℕ × Words). p.1) is in
    rw (← rest_is) (omega arith)

ticket_then : (fs : List Form) (words : Words) (t : Ticket) (rest : Words) → next_ticket words ≡ Some (t, rest) → AreWordsOf fs rest → AreWordsOf (ticket t ∷ fs) words
unfolding next_ticket
ticket_then fs [] t rest e h = absurd cc
ticket_then fs (w ∷ ws) t rest e h =
    let v = bind_some (ticket_in w) (λ m. Some (m, ws)) (t, rest) e in
    let is = some_is (v.0, ws) (t, rest) v.2 in
    let t-is : v.0 ≡ t = ap (λ (p : Ticket × Words). p.0) is in
    let r-is : ws ≡ rest = ap (λ (p : Ticket × Words). p.1) is in
    (subst (λ (u : Ticket). IsTicket w u) t-is (ticket_takes w v.0 v.1), rw r-is h)

ticket_next : (fs : List Form) (words : Words) (t : Ticket) → AreWordsOf (ticket t ∷ fs) words → (rest : Words) × (next_ticket words ≡ Some (t, rest)) × AreWordsOf fs rest
unfolding next_ticket
ticket_next fs [] t h = absurd h
ticket_next fs (w ∷ ws) t h = (ws, rw (ticket_again w t h.0) refl, h.1)

pub exactly_then : (fs : List Form) (words : Words) (text : List ℕ) (rest : Words) → next_exactly text words ≡ Some rest → AreWordsOf fs rest → AreWordsOf (exactly text ∷ fs) words
unfolding next_exactly
exactly_then fs [] text rest e h = absurd cc
exactly_then fs (w ∷ ws) text rest e h =
    let t = test_passed (bytes_eq w text) (Some ws) rest e in
    let r-is : ws ≡ rest = some_is ws rest t.1 in
    ((bytes_eq-Decides w text).0 t.0, rw r-is h)

pub exactly_next : (fs : List Form) (words : Words) (text : List ℕ) → AreWordsOf (exactly text ∷ fs) words → (rest : Words) × (next_exactly text words ≡ Some rest) × AreWordsOf fs rest
unfolding next_exactly
exactly_next fs [] text h = absurd h
exactly_next fs (w ∷ ws) text h = (ws, rw ((bytes_eq-Decides w text).1 h.0) refl, h.1)

-- ---- the last words

pub ended_takes : {A : Type 0} (x y : A) (words : Words) → ended x words ≡ Some y → AreWordsOf [] words × (x ≡ y)
ended_takes x y [] e = (tt, some_is x y e)
ended_takes x y (w ∷ ws) e = absurd cc

pub ended_again : {A : Type 0} (x : A) (words : Words) → AreWordsOf [] words → ended x words ≡ Some x
ended_again x [] h = refl
ended_again x (w ∷ ws) h = absurd h

pub number_alone_takes : (words : Words) (n : ℕ) → number_alone words ≡ Some n → AreWordsOf (number n ∷ []) words
unfolding number_alone
number_alone_takes words n e =
    let a = bind_some (next_number words) (λ m. ended m.0 m.1) n e in
    let z = ended_takes a.0.0 n a.0.1 a.2 in
    subst (λ (k : ℕ). AreWordsOf (number k ∷ []) words) z.1 (number_then [] words a.0.0 a.0.1 a.1 z.0)

pub number_alone_again : (words : Words) (n : ℕ) → AreWordsOf (number n ∷ []) words → number_alone words ≡ Some n
unfolding number_alone
number_alone_again words n h =
    let a = number_next [] words n h in
    rw a.1 (ended_again n a.0 a.2)

pub ticket_alone_takes : (words : Words) (t : Ticket) → ticket_alone words ≡ Some t → AreWordsOf (ticket t ∷ []) words
unfolding ticket_alone
ticket_alone_takes words t e =
    let a = bind_some (next_ticket words) (λ m. ended m.0 m.1) t e in
    let z = ended_takes a.0.0 t a.0.1 a.2 in
    subst (λ (u : Ticket). AreWordsOf (ticket u ∷ []) words) z.1 (ticket_then [] words a.0.0 a.0.1 a.1 z.0)

pub ticket_alone_again : (words : Words) (t : Ticket) → AreWordsOf (ticket t ∷ []) words → ticket_alone words ≡ Some t
unfolding ticket_alone
ticket_alone_again words t h =
    let a = ticket_next [] words t h in
    rw a.1 (ended_again t a.0 a.2)

pub string_alone_takes : (words : Words) (bytes : List ℕ) → string_alone words ≡ Some bytes → AreWordsOf (byte_string bytes ∷ []) words
unfolding string_alone
string_alone_takes words bytes e =
    let a = bind_some (next_string words) (λ m. ended m.0 m.1) bytes e in
    let z = ended_takes a.0.0 bytes a.0.1 a.2 in
    subst (λ (k : List ℕ). AreWordsOf (byte_string k ∷ []) words) z.1 (string_then [] words a.0.0 a.0.1 a.1 z.0)

pub string_alone_again : (words : Words) (bytes : List ℕ) → AreWordsOf (byte_string bytes ∷ []) words → string_alone words ≡ Some bytes
unfolding string_alone
string_alone_again words bytes h =
    let a = string_next [] words bytes h in
    rw a.1 (ended_again bytes a.0 a.2)

pub strings_alone_takes : (words : Words) (both : List ℕ × List ℕ) → strings_alone words ≡ Some both → AreWordsOf (byte_string both.0 ∷ byte_string both.1 ∷ []) words
unfolding strings_alone
strings_alone_takes words both e =
    let a = bind_some (next_string words) (λ k. next_string k.1 >>= λ v. ended (k.0, v.0) v.1) both e in
    let b = bind_some (next_string a.0.1) (λ v. ended (a.0.0, v.0) v.1) both a.2 in
    let z = ended_takes (a.0.0, b.0.0) both b.0.1 b.2 in
    subst (λ (k : List ℕ × List ℕ). AreWordsOf (byte_string k.0 ∷ byte_string k.1 ∷ []) words) z.1 (string_then (byte_string b.0.0 ∷ []) words a.0.0 a.0.1 a.1 (string_then [] a.0.1 b.0.0 b.0.1 b.1 z.0))

pub strings_alone_again : (words : Words) (key value : List ℕ) → AreWordsOf (byte_string key ∷ byte_string value ∷ []) words → strings_alone words ≡ Some (key, value)
unfolding strings_alone
strings_alone_again words key value h =
    let a = string_next (byte_string value ∷ []) words key h in
    let b = string_next [] a.0 value a.2 in
    rw (a.1, b.1) (ended_again (key, value) b.0 b.2)
