-- The words of a line: what is read is spelled by the forms, and what is spelled so is read.
use Rattle.std.proofs.Common.{◌≡◌, ℕ, true, false, cond, List, [], ◌∷◌, ◌++◌, Option, Some, None, refl, ap, subst, lit<}
use Rattle.std.specs.Prelude.{bytes_eq}
use Rattle.std.specs.List.{join_with_byte}
use Rattle.std.proofs.lemmas.Slice.Eq.{bytes_eq-Decides}
use Rattle.txn_kv.specs.declared.ticket.Ticket.{Ticket}
use Rattle.txn_script.specs.Grammar.{IsNumber, IsByteString, IsTicket, Form, exactly, number, byte_string, ticket, IsWordOf, IsSpelled}
use Rattle.txn_script.specs.Reading.{◌>>=◌, Rest, cut_at, split_word, next_word, number_in, string_in, ticket_in, next_number, next_string, next_ticket, next_exactly}
use Rattle.txn_script.proofs.Options.{bind_some, test_passed, some_is}
use Rattle.txn_script.proofs.Cuts.{IsFree, IsFree-append, IsCut, cut_is, cut_none, cut_first}
use Rattle.txn_script.proofs.Numbers.{number_takes, number_again, free_number}
use Rattle.txn_script.proofs.Strings.{string_takes, string_again, free_string}

-- ---- tickets

ticket_takes : (word : List ℕ) (t : Ticket) → ticket_in word ≡ Some t → IsTicket word t
unfolding ticket_in
ticket_takes word t e =
    let cut = bind_some (cut_at 46 word) (λ parts. number_in parts.0 >>= λ line. number_in parts.1 >>= λ n. Some (record { line = line; beat = false; number = n })) t e in
    let line = bind_some (number_in cut.0.0) (λ line. number_in cut.0.1 >>= λ n. Some (record { line = line; beat = false; number = n })) t cut.2 in
    let n = bind_some (number_in cut.0.1) (λ n. Some (record { line = line.0; beat = false; number = n })) t line.2 in
    let parts : IsFree 46 cut.0.0 × (word ≡ cut.0.0 ++ 46 ∷ cut.0.1) = subst (λ (found : Option (List ℕ × List ℕ)). IsCut 46 word found) cut.1 (cut_is 46 word) in
    let made : Ticket = record { line = line.0; beat = false; number = n.0 } in
    subst (λ (u : Ticket). IsTicket word u) (some_is made t n.2) (cut.0.0, cut.0.1, number_takes cut.0.0 line.0 line.1, number_takes cut.0.1 n.0 n.1, refl, parts.1)

ticket_again : (word : List ℕ) (t : Ticket) → IsTicket word t → ticket_in word ≡ Some t
unfolding ticket_in
ticket_again word t (line, n, is_line, is_number, beat, parts) =
    let cut : cut_at 46 word ≡ Some (line, n) = rw parts (cut_first 46 line n (free_number 46 line t.line (lit< tt) is_line)) in
    rw (cut, number_again line t.line is_line, number_again n t.number is_number, ← beat) refl

free_ticket : (word : List ℕ) (t : Ticket) → IsTicket word t → IsFree 32 word
free_ticket word t (line, n, is_line, is_number, beat, parts) =
    rw parts (IsFree-append 32 line (46 ∷ n) (free_number 32 line t.line (lit< tt) is_line) (refl, free_number 32 n t.number (lit< tt) is_number))

-- ---- one word

-- a word that a form names has no space
abbrev HasNoSpace : Form → Type 0
HasNoSpace (exactly text) = IsFree 32 text
HasNoSpace (number n) = Unit {0}
HasNoSpace (byte_string bytes) = Unit {0}
HasNoSpace (ticket t) = Unit {0}

free_word : (f : Form) (word : List ℕ) → HasNoSpace f → IsWordOf f word → IsFree 32 word
free_word (exactly text) word free is = rw is free
free_word (number n) word free is = free_number 32 word n (lit< tt) is
free_word (byte_string bytes) word free is = free_string word bytes is
free_word (ticket t) word free is = free_ticket word t is

-- the rest is spelled by these forms
abbrev pub Follows : List Form → Rest → Type 0
Follows [] None = Unit {0}
Follows [] (Some bytes) = ⊥
Follows (f ∷ fs) None = ⊥
Follows (f ∷ fs) (Some bytes) = IsSpelled (f ∷ fs) bytes

last_word : (f : Form) (fs : List Form) (word : List ℕ) → IsWordOf f word → Follows fs None → IsSpelled (f ∷ fs) word
last_word f [] word is h = (word ∷ [], (is, tt), refl)
last_word f (g ∷ fs) word is h = absurd h

one_more : (f : Form) (fs : List Form) (word bytes : List ℕ) → IsWordOf f word → Follows fs (Some bytes) → IsSpelled (f ∷ fs) (word ++ 32 ∷ bytes)
one_more f [] word bytes is h = absurd h
one_more f (g ∷ fs) word bytes is ([], are, joined) = absurd are
one_more f (g ∷ fs) word bytes is (v ∷ vs, are, joined) = (word ∷ v ∷ vs, (is, are), ap (λ (r : List ℕ). word ++ 32 ∷ r) joined)

word_before : (f : Form) (fs : List Form) (bytes word : List ℕ) (rest : Rest) (cut : Option (List ℕ × List ℕ)) → IsCut 32 bytes cut → split_word bytes cut ≡ (word, rest) → IsWordOf f word → Follows fs rest → IsSpelled (f ∷ fs) bytes
word_before f fs bytes word rest None cut e is h =
    let w : bytes ≡ word = ap (λ (p : List ℕ × Rest). p.0) e in
    let r : None ≡ rest = ap (λ (p : List ℕ × Rest). p.1) e in
    last_word f fs bytes (rw w is) (rw r h)
word_before f fs bytes word rest (Some parts) cut e is h =
    let w : parts.0 ≡ word = ap (λ (p : List ℕ × Rest). p.0) e in
    let r : Some parts.1 ≡ rest = ap (λ (p : List ℕ × Rest). p.1) e in
    rw cut.1 (one_more f fs parts.0 parts.1 (rw w is) (rw r h))

pub word_takes : (f : Form) (fs : List Form) (words : Rest) (word : List ℕ) (rest : Rest) → next_word words ≡ Some (word, rest) → IsWordOf f word → Follows fs rest → Follows (f ∷ fs) words
word_takes f fs None word rest e is h = absurd cc
word_takes f fs (Some bytes) word rest e is h = word_before f fs bytes word rest (cut_at 32 bytes) (cut_is 32 bytes) (some_is (split_word bytes (cut_at 32 bytes)) (word, rest) e) is h

-- the next word, and the rest that the other forms spell
pub record NextIs (f : Form) (fs : List Form) (words : Rest) : Type 0 where
  pub word : List ℕ
  pub rest : Rest
  pub next : next_word words ≡ Some (word, rest)
  pub is : IsWordOf f word
  pub follows : Follows fs rest

pub word_again : (f : Form) (fs : List Form) (words : Rest) → HasNoSpace f → Follows (f ∷ fs) words → NextIs f fs words
word_again f fs None free h = absurd h
word_again f fs (Some bytes) free ([], are, joined) = absurd are
word_again f [] (Some bytes) free (w ∷ [], are, joined) =
    record { word = w; rest = None; next = rw (joined, cut_none 32 w (free_word f w free are.0)) refl; is = are.0; follows = tt }
word_again f [] (Some bytes) free (w ∷ v ∷ vs, are, joined) = absurd are.1
word_again f (g ∷ fs) (Some bytes) free (w ∷ [], are, joined) = absurd are.1
word_again f (g ∷ fs) (Some bytes) free (w ∷ v ∷ vs, are, joined) =
    let others = join_with_byte 32 (v ∷ vs) in
    record { word = w; rest = Some others; next = rw (joined, cut_first 32 w others (free_word f w free are.0)) refl; is = are.0; follows = (v ∷ vs, are.1, refl) }

-- ---- one word as a value

-- what is read next has this form, and what is of this form is read next
pub number_then : (fs : List Form) (words : Rest) (n : ℕ) (rest : Rest) → next_number words ≡ Some (n, rest) → Follows fs rest → Follows (number n ∷ fs) words
unfolding next_number
number_then fs words n rest e h =
    let w = bind_some (next_word words) (λ w. number_in w.0 >>= λ n. Some (n, w.1)) (n, rest) e in
    let v = bind_some (number_in w.0.0) (λ n. Some (n, w.0.1)) (n, rest) w.2 in
    let is = some_is (v.0, w.0.1) (n, rest) v.2 in
    let n-is : v.0 ≡ n = ap (λ (p : ℕ × Rest). p.0) is in
    let r-is : w.0.1 ≡ rest = ap (λ (p : ℕ × Rest). p.1) is in
    word_takes (number n) fs words w.0.0 w.0.1 w.1 (subst (λ (k : ℕ). IsNumber w.0.0 k) n-is (number_takes w.0.0 v.0 v.1)) (rw r-is h)

pub number_next : (fs : List Form) (words : Rest) (n : ℕ) → Follows (number n ∷ fs) words → (rest : Rest) × (next_number words ≡ Some (n, rest)) × Follows fs rest
unfolding next_number
number_next fs words n h =
    let w = word_again (number n) fs words tt h in
    (w.rest, rw (w.next, number_again w.word n w.is) refl, w.follows)

pub string_then : (fs : List Form) (words : Rest) (bytes : List ℕ) (rest : Rest) → next_string words ≡ Some (bytes, rest) → Follows fs rest → Follows (byte_string bytes ∷ fs) words
unfolding next_string
string_then fs words bytes rest e h =
    let w = bind_some (next_word words) (λ w. string_in w.0 >>= λ n. Some (n, w.1)) (bytes, rest) e in
    let v = bind_some (string_in w.0.0) (λ n. Some (n, w.0.1)) (bytes, rest) w.2 in
    let is = some_is (v.0, w.0.1) (bytes, rest) v.2 in
    let n-is : v.0 ≡ bytes = ap (λ (p : List ℕ × Rest). p.0) is in
    let r-is : w.0.1 ≡ rest = ap (λ (p : List ℕ × Rest). p.1) is in
    word_takes (byte_string bytes) fs words w.0.0 w.0.1 w.1 (subst (λ (k : List ℕ). IsByteString w.0.0 k) n-is (string_takes w.0.0 v.0 v.1)) (rw r-is h)

pub string_next : (fs : List Form) (words : Rest) (bytes : List ℕ) → Follows (byte_string bytes ∷ fs) words → (rest : Rest) × (next_string words ≡ Some (bytes, rest)) × Follows fs rest
unfolding next_string
string_next fs words bytes h =
    let w = word_again (byte_string bytes) fs words tt h in
    (w.rest, rw (w.next, string_again w.word bytes w.is) refl, w.follows)

pub ticket_then : (fs : List Form) (words : Rest) (t : Ticket) (rest : Rest) → next_ticket words ≡ Some (t, rest) → Follows fs rest → Follows (ticket t ∷ fs) words
unfolding next_ticket
ticket_then fs words t rest e h =
    let w = bind_some (next_word words) (λ w. ticket_in w.0 >>= λ n. Some (n, w.1)) (t, rest) e in
    let v = bind_some (ticket_in w.0.0) (λ n. Some (n, w.0.1)) (t, rest) w.2 in
    let is = some_is (v.0, w.0.1) (t, rest) v.2 in
    let n-is : v.0 ≡ t = ap (λ (p : Ticket × Rest). p.0) is in
    let r-is : w.0.1 ≡ rest = ap (λ (p : Ticket × Rest). p.1) is in
    word_takes (ticket t) fs words w.0.0 w.0.1 w.1 (subst (λ (u : Ticket). IsTicket w.0.0 u) n-is (ticket_takes w.0.0 v.0 v.1)) (rw r-is h)

pub ticket_next : (fs : List Form) (words : Rest) (t : Ticket) → Follows (ticket t ∷ fs) words → (rest : Rest) × (next_ticket words ≡ Some (t, rest)) × Follows fs rest
unfolding next_ticket
ticket_next fs words t h =
    let w = word_again (ticket t) fs words tt h in
    (w.rest, rw (w.next, ticket_again w.word t w.is) refl, w.follows)

pub exactly_then : (fs : List Form) (words : Rest) (text : List ℕ) (rest : Rest) → next_exactly text words ≡ Some rest → Follows fs rest → Follows (exactly text ∷ fs) words
unfolding next_exactly
exactly_then fs words text rest e h =
    let w = bind_some (next_word words) (λ w. cond (bytes_eq w.0 text) (Some w.1) None) rest e in
    let t = test_passed (bytes_eq w.0.0 text) (Some w.0.1) rest w.2 in
    let r-is : w.0.1 ≡ rest = some_is w.0.1 rest t.1 in
    word_takes (exactly text) fs words w.0.0 w.0.1 w.1 ((bytes_eq-Decides w.0.0 text).0 t.0) (rw r-is h)

pub exactly_next : (fs : List Form) (words : Rest) (text : List ℕ) → IsFree 32 text → Follows (exactly text ∷ fs) words → (rest : Rest) × (next_exactly text words ≡ Some rest) × Follows fs rest
unfolding next_exactly
exactly_next fs words text free h =
    let w = word_again (exactly text) fs words free h in
    let same : bytes_eq w.word text ≡ true = (bytes_eq-Decides w.word text).1 w.is in
    (w.rest, rw (w.next, same) refl, w.follows)
