-- A line that is read is spelled by its forms, and a line that is spelled so is read.
use Rattle.std.proofs.Common.{◌≡◌, ℕ, ◌<◌, ◌⊎◌, false, cond, eqb, List, [], ◌∷◌, ◌++◌, length, get_or, Option, Some, None, refl, sym, ap, subst, ◌∙◌, arith, inl, inr}
use Rattle.std.specs.Prelude.{codes, bytes_eq}
use Rattle.std.specs.List.{join_with_byte}
use Rattle.std.proofs.lemmas.Bool.{cases_Bool, cases_lt, eqb-true, eqb-false, ne_eqb}
use Rattle.std.proofs.lemmas.List.{nil_from_length}
use Rattle.std.proofs.lemmas.Slice.Eq.{bytes_eq-Decides}
use Rattle.txn_kv.specs.declared.ticket.Ticket.{Ticket}
use Rattle.txn_script.specs.declared.line.Line.{Line}
use Rattle.txn_script.specs.declared.line.Line.TheVariants.{Blank, Client, Begin, Put, Commit, Deliver}
use Rattle.txn_script.specs.Grammar.{Form, exactly, number, byte_string, ticket, IsSpelled, IsLine}
use Rattle.txn_script.specs.Reading.{◌>>=◌, Rest, next_word, next_number, next_string, next_ticket, next_exactly, ended, begin_in, put_in, commit_in, deliver_in, words_in, line_in}
use Rattle.txn_script.proofs.Options.{bind_some, some_is}
use Rattle.txn_script.proofs.Cuts.{IsFree}
use Rattle.txn_script.proofs.WordLaws.{Follows, word_takes, word_again, number_then, number_next, string_then, string_next, ticket_then, ticket_next, exactly_then, exactly_next}

-- the end of a line
ended_takes : (line read : Line) (words : Rest) → ended line words ≡ Some read → Follows [] words × (line ≡ read)
ended_takes line read None e = (tt, some_is line read e)
ended_takes line read (Some bytes) e = absurd cc

ended_again : (line : Line) (words : Rest) → Follows [] words → ended line words ≡ Some line
ended_again line None h = refl
ended_again line (Some bytes) h = absurd h

begin_takes : (words : Rest) (read : Line) → begin_in words ≡ Some read → (client : ℕ) × (Begin client ≡ read) × Follows (number client ∷ exactly (codes "opt") ∷ []) words
unfolding begin_in
begin_takes words read e =
    let a = bind_some (next_number words) (λ client. next_exactly (codes "opt") client.1 >>= λ rest. ended (Begin client.0) rest) read e in
    let b = bind_some (next_exactly (codes "opt") a.0.1) (λ rest. ended (Begin a.0.0) rest) read a.2 in
    let z = ended_takes (Begin a.0.0) read b.0 b.2 in
    (a.0.0, z.1, number_then (exactly (codes "opt") ∷ []) words a.0.0 a.0.1 a.1 (exactly_then [] a.0.1 (codes "opt") b.0 b.1 z.0))

begin_again : (words : Rest) (client : ℕ) → Follows (number client ∷ exactly (codes "opt") ∷ []) words → begin_in words ≡ Some (Begin client)
unfolding begin_in
begin_again words client h =
    let a = number_next (exactly (codes "opt") ∷ []) words client h in
    let b = exactly_next [] a.0 (codes "opt") (refl, (refl, (refl, tt))) a.2 in
    rw (a.1, b.1) (ended_again (Begin client) b.0 b.2)

put_takes : (words : Rest) (read : Line) → put_in words ≡ Some read → (transaction : ℕ) × (key value : List ℕ) × (Put transaction key value ≡ read) × Follows (number transaction ∷ byte_string key ∷ byte_string value ∷ []) words
unfolding put_in
put_takes words read e =
    let a = bind_some (next_number words) (λ t. next_string t.1 >>= λ k. next_string k.1 >>= λ v. ended (Put t.0 k.0 v.0) v.1) read e in
    let b = bind_some (next_string a.0.1) (λ k. next_string k.1 >>= λ v. ended (Put a.0.0 k.0 v.0) v.1) read a.2 in
    let d = bind_some (next_string b.0.1) (λ v. ended (Put a.0.0 b.0.0 v.0) v.1) read b.2 in
    let z = ended_takes (Put a.0.0 b.0.0 d.0.0) read d.0.1 d.2 in
    (a.0.0, b.0.0, d.0.0, z.1, number_then (byte_string b.0.0 ∷ byte_string d.0.0 ∷ []) words a.0.0 a.0.1 a.1 (string_then (byte_string d.0.0 ∷ []) a.0.1 b.0.0 b.0.1 b.1 (string_then [] b.0.1 d.0.0 d.0.1 d.1 z.0)))

put_again : (words : Rest) (transaction : ℕ) (key value : List ℕ) → Follows (number transaction ∷ byte_string key ∷ byte_string value ∷ []) words → put_in words ≡ Some (Put transaction key value)
unfolding put_in
put_again words transaction key value h =
    let a = number_next (byte_string key ∷ byte_string value ∷ []) words transaction h in
    let b = string_next (byte_string value ∷ []) a.0 key a.2 in
    let d = string_next [] b.0 value b.2 in
    rw (a.1, b.1, d.1) (ended_again (Put transaction key value) d.0 d.2)

commit_takes : (words : Rest) (read : Line) → commit_in words ≡ Some read → (transaction : ℕ) × (Commit transaction ≡ read) × Follows (number transaction ∷ []) words
unfolding commit_in
commit_takes words read e =
    let a = bind_some (next_number words) (λ t. ended (Commit t.0) t.1) read e in
    let z = ended_takes (Commit a.0.0) read a.0.1 a.2 in
    (a.0.0, z.1, number_then [] words a.0.0 a.0.1 a.1 z.0)

commit_again : (words : Rest) (transaction : ℕ) → Follows (number transaction ∷ []) words → commit_in words ≡ Some (Commit transaction)
unfolding commit_in
commit_again words transaction h =
    let a = number_next [] words transaction h in
    rw a.1 (ended_again (Commit transaction) a.0 a.2)

deliver_takes : (words : Rest) (read : Line) → deliver_in words ≡ Some read → (t : Ticket) × (Deliver t ≡ read) × Follows (ticket t ∷ []) words
unfolding deliver_in
deliver_takes words read e =
    let a = bind_some (next_ticket words) (λ t. ended (Deliver t.0) t.1) read e in
    let z = ended_takes (Deliver a.0.0) read a.0.1 a.2 in
    (a.0.0, z.1, ticket_then [] words a.0.0 a.0.1 a.1 z.0)

deliver_again : (words : Rest) (t : Ticket) → Follows (ticket t ∷ []) words → deliver_in words ≡ Some (Deliver t)
unfolding deliver_in
deliver_again words t h =
    let a = ticket_next [] words t h in
    rw a.1 (ended_again (Deliver t) a.0 a.2)

-- a test of the first word
chosen : (kind text : List ℕ) (one other : Option Line) (read : Line) → cond (bytes_eq kind text) one other ≡ Some read → ((kind ≡ text) × (one ≡ Some read)) ⊎ (other ≡ Some read)
chosen kind text one other read e = elim (cases_Bool (bytes_eq kind text)) [
  | inl is ↦ inl ((bytes_eq-Decides kind text).0 is, rw is at e)
  | inr not_is ↦ inr (rw not_is at e)
]

words_take : (bytes kind : List ℕ) (words : Rest) (read : Line) → next_word (Some bytes) ≡ Some (kind, words) → words_in kind words ≡ Some read → IsLine bytes read
unfolding words_in
words_take bytes kind words read next e =
    elim (chosen kind (codes "client") _ _ read e) [
      | inl it ↦
          let z = ended_takes Client read words it.1 in
          subst (IsLine bytes) z.1 (word_takes (exactly (codes "client")) [] (Some bytes) kind words next it.0 z.0)
      | inr e1 ↦ elim (chosen kind (codes "begin") _ _ read e1) [
        | inl it ↦
            let z = begin_takes words read it.1 in
            subst (IsLine bytes) z.1 (word_takes (exactly (codes "begin")) (number z.0 ∷ exactly (codes "opt") ∷ []) (Some bytes) kind words next it.0 z.2)
        | inr e2 ↦ elim (chosen kind (codes "put") _ _ read e2) [
          | inl it ↦
              let z = put_takes words read it.1 in
              subst (IsLine bytes) z.3 (word_takes (exactly (codes "put")) (number z.0 ∷ byte_string z.1 ∷ byte_string z.2 ∷ []) (Some bytes) kind words next it.0 z.4)
          | inr e3 ↦ elim (chosen kind (codes "commit") _ _ read e3) [
            | inl it ↦
                let z = commit_takes words read it.1 in
                subst (IsLine bytes) z.1 (word_takes (exactly (codes "commit")) (number z.0 ∷ []) (Some bytes) kind words next it.0 z.2)
            | inr e4 ↦ elim (chosen kind (codes "deliver") _ None read e4) [
              | inl it ↦
                  let z = deliver_takes words read it.1 in
                  subst (IsLine bytes) z.1 (word_takes (exactly (codes "deliver")) (ticket z.0 ∷ []) (Some bytes) kind words next it.0 z.2)
              | inr none ↦ absurd cc
            ]
          ]
        ]
      ]
    ]

comment_from : (bytes : List ℕ) → 0 < length bytes → get_or bytes 0 0 ≡ 35 → (comment : List ℕ) × (bytes ≡ codes "#" ++ comment)
comment_from [] long e = absurd (omega arith)
comment_from (b ∷ bytes) long e = (bytes, ap (λ (x : ℕ). x ∷ bytes) e)

pub line_takes : (bytes : List ℕ) (line : Line) → line_in bytes ≡ Some line → IsLine bytes line
unfolding line_in
line_takes bytes line e = elim (cases_Bool (eqb (length bytes) 0)) [
  | inl empty ↦
      let taken : line_in bytes ≡ Some Blank = rw empty refl in
      subst (IsLine bytes) (some_is Blank line (sym taken ∙ e)) (inl (nil_from_length bytes (eqb-true (length bytes) 0 empty)))
  | inr long ↦ elim (cases_Bool (eqb (get_or bytes 0 0) 35)) [
    | inl hash ↦
        let taken : line_in bytes ≡ Some Blank = rw (long, hash) refl in
        subst (IsLine bytes) (some_is Blank line (sym taken ∙ e)) (inr (comment_from bytes (elim (cases_lt 0 (length bytes)) [ inl lt ↦ lt | inr le ↦ absurd (eqb-false (length bytes) 0 long (omega arith)) ]) (eqb-true (get_or bytes 0 0) 35 hash)))
    | inr words ↦
        let taken : line_in bytes ≡ (next_word (Some bytes) >>= λ w. words_in w.0 w.1) = rw (long, words) refl in
        let w = bind_some (next_word (Some bytes)) (λ w. words_in w.0 w.1) line (sym taken ∙ e) in
        words_take bytes w.0.0 w.0.1 line w.1 w.2
  ]
]

-- the first byte of a line is that of its first word
first_byte : (c : ℕ) (cs : List ℕ) (fs : List Form) (bytes : List ℕ) → IsSpelled (exactly (c ∷ cs) ∷ fs) bytes → (more : List ℕ) × (bytes ≡ c ∷ more)
first_byte c cs fs bytes ([], are, joined) = absurd are
first_byte c cs fs bytes (w ∷ [], are, joined) = (cs, joined ∙ are.0)
first_byte c cs fs bytes (w ∷ v ∷ vs, are, joined) = (cs ++ 32 ∷ join_with_byte 32 (v ∷ vs), joined ∙ ap (λ (x : List ℕ). x ++ 32 ∷ join_with_byte 32 (v ∷ vs)) are.0)

-- a line that is spelled by words is read word by word
spelled : (c : ℕ) (cs : List ℕ) (fs : List Form) (bytes : List ℕ) (line : Line) → eqb c 35 ≡ false → IsFree 32 (c ∷ cs) → IsSpelled (exactly (c ∷ cs) ∷ fs) bytes
    → ((words : Rest) → Follows fs words → words_in (c ∷ cs) words ≡ Some line) → line_in bytes ≡ Some line
unfolding line_in
spelled c cs fs bytes line not_hash free h read =
    let f = first_byte c cs fs bytes h in
    let w = word_again (exactly (c ∷ cs)) fs (Some bytes) free h in
    let long : eqb (length bytes) 0 ≡ false = rw f.1 (ne_eqb (length (c ∷ f.0)) 0 (λ is. omega (arith, is))) in
    let other : eqb (get_or bytes 0 0) 35 ≡ false = rw f.1 not_hash in
    let by_words : line_in bytes ≡ (next_word (Some bytes) >>= λ x. words_in x.0 x.1) = rw (long, other) refl in
    let from : Option (List ℕ × Rest) → Option Line = λ o. o >>= λ x. words_in x.0 x.1 in
    by_words ∙ ap from w.next ∙ ap (λ (k : List ℕ). words_in k w.rest) w.is ∙ read w.rest w.follows

-- each kind by its first word
client_read : (words : Rest) → Follows [] words → words_in (codes "client") words ≡ Some Client
unfolding words_in
client_read words h = ended_again Client words h

begin_read : (client : ℕ) (words : Rest) → Follows (number client ∷ exactly (codes "opt") ∷ []) words → words_in (codes "begin") words ≡ Some (Begin client)
unfolding words_in
begin_read client words h = begin_again words client h

put_read : (transaction : ℕ) (key value : List ℕ) (words : Rest) → Follows (number transaction ∷ byte_string key ∷ byte_string value ∷ []) words → words_in (codes "put") words ≡ Some (Put transaction key value)
unfolding words_in
put_read transaction key value words h = put_again words transaction key value h

commit_read : (transaction : ℕ) (words : Rest) → Follows (number transaction ∷ []) words → words_in (codes "commit") words ≡ Some (Commit transaction)
unfolding words_in
commit_read transaction words h = commit_again words transaction h

deliver_read : (t : Ticket) (words : Rest) → Follows (ticket t ∷ []) words → words_in (codes "deliver") words ≡ Some (Deliver t)
unfolding words_in
deliver_read t words h = deliver_again words t h

pub line_again : (bytes : List ℕ) (line : Line) → IsLine bytes line → line_in bytes ≡ Some line
unfolding line_in
line_again bytes Blank (inl empty) = rw empty refl
line_again bytes Blank (inr (comment, is)) = rw (is, ne_eqb (length (35 ∷ comment)) 0 (λ is_zero. omega (arith, is_zero))) refl
line_again bytes Client h = spelled _ _ [] bytes Client refl (refl, (refl, (refl, (refl, (refl, (refl, tt)))))) h client_read
line_again bytes (Begin client) h = spelled _ _ (number client ∷ exactly (codes "opt") ∷ []) bytes (Begin client) refl (refl, (refl, (refl, (refl, (refl, tt))))) h (begin_read client)
line_again bytes (Put transaction key value) h = spelled _ _ (number transaction ∷ byte_string key ∷ byte_string value ∷ []) bytes (Put transaction key value) refl (refl, (refl, (refl, tt))) h (put_read transaction key value)
line_again bytes (Commit transaction) h = spelled _ _ (number transaction ∷ []) bytes (Commit transaction) refl (refl, (refl, (refl, (refl, (refl, (refl, tt)))))) h (commit_read transaction)
line_again bytes (Deliver t) h = spelled _ _ (ticket t ∷ []) bytes (Deliver t) refl (refl, (refl, (refl, (refl, (refl, (refl, (refl, tt))))))) h (deliver_read t)

-- bytes are a spelling of one line at most
pub one_line : (bytes : List ℕ) (a b : Line) → IsLine bytes a → IsLine bytes b → a ≡ b
one_line bytes a b ha hb = some_is a b (sym (line_again bytes a ha) ∙ line_again bytes b hb)

-- bytes that are not read are a spelling of no line
pub no_line : (bytes : List ℕ) → line_in bytes ≡ None → (line : Line) → IsLine bytes line → ⊥
no_line bytes none line h = absurd (cc (none, line_again bytes line h))
