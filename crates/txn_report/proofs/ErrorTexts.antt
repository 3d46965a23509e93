-- The text of an error, variant by variant and in a loop over errors.
use Rattle.std.proofs.Common.{◌≡◌, ◌∙◌, ap, sym, subst, arith, ℕ, ◌+◌, ◌<◌, ◌==◌, suc, Bool, false, if◌then◌else◌, List, [], ◌∷◌, ◌++◌, append_assoc, codes, length, map, take, get_or, OnOk, Result}
use Rattle.std.specs.List.{flat_map}
use Rattle.std.proofs.lemmas.Bool.Decides.{nat_tests}
use Rattle.std.proofs.lemmas.List.{append-nil, length-map, length-take-le, map-append, take_more}
use Rattle.std.proofs.lemmas.List.Concat.{flat_map-append}
use Rattle.txn_kv.specs.declared.errors.Error.{Error}
use Rattle.txn_kv.specs.declared.errors.Error.TheOpen.{Error-F}
use Rattle.txn_kv.specs.declared.errors.Error.TheViews.{roll-Error}
use Rattle.txn_report.specs.ErrorText.{after_separator, joined, separator, text_of_error}

-- a text that was put at the end is that of the error, whose layer is x
pub pushed_as : {T E : Type 0} {text : List ℕ} (x : Error-F Error) (r : Result T E) (out old : List ℕ) (e : Error) → e ≡ roll-Error x → text_of_error (roll-Error x) ≡ text → OnOk r (out ≡ old ++ text) → OnOk r (out ≡ old ++ text_of_error e)
pushed_as x r out old e is t h = subst (λ z. OnOk r (out ≡ old ++ z)) (sym t ∙ ap text_of_error (sym is)) h

joined_more : (ts : List (List ℕ)) (t : List ℕ) → joined (ts ++ t ∷ []) ≡ joined ts ++ (separator (length ts) ++ t)
joined_more [] t = append-nil t
joined_more (x ∷ xs) t =
    let later : (suc (length xs) == 0) ≡ false = grind (arith, nat_tests) in
    ap (λ z. x ++ z) (flat_map-append after_separator xs (t ∷ []) ∙ ap (λ z. flat_map after_separator xs ++ z) (append-nil (after_separator t)))
    ∙ sym (append_assoc x (flat_map after_separator xs) (after_separator t))
    ∙ ap (λ (b : Bool). (x ++ flat_map after_separator xs) ++ ((if b then [] else codes "; ") ++ t)) (sym later)

joined_step : (es : List Error) (i : ℕ) (e : Error) → i < length es → e ≡ get_or es i e → joined (map text_of_error (take (i + 1) es)) ≡ joined (map text_of_error (take i es)) ++ (separator i ++ text_of_error e)
joined_step es i e l is =
    ap (λ z. joined (map text_of_error z)) (take_more es i e l ∙ ap (λ z. take i es ++ z ∷ []) (sym is))
    ∙ ap joined (map-append text_of_error (take i es) (e ∷ []))
    ∙ joined_more (map text_of_error (take i es)) (text_of_error e)
    ∙ ap (λ n. joined (map text_of_error (take i es)) ++ (separator n ++ text_of_error e)) (length-map (take i es) text_of_error ∙ length-take-le i es (omega (arith, l)))

-- a turn of the loop: what stood, what stands after the separator, and after the text of the error
pub errors_more : (es : List Error) (i : ℕ) (e : Error) (old name before between after : List ℕ) → i < length es → e ≡ get_or es i e → before ≡ (old ++ name) ++ joined (map text_of_error (take i es)) → between ≡ before ++ separator i → after ≡ between ++ text_of_error e → after ≡ (old ++ name) ++ joined (map text_of_error (take (i + 1) es))
errors_more es i e old name before between after l is so_far mark more =
    let done = joined (map text_of_error (take i es)) in
    more
    ∙ ap (λ z. z ++ text_of_error e) (mark ∙ ap (λ z. z ++ separator i) so_far)
    ∙ append_assoc ((old ++ name) ++ done) (separator i) (text_of_error e)
    ∙ append_assoc (old ++ name) done (separator i ++ text_of_error e)
    ∙ ap (λ z. (old ++ name) ++ z) (sym (joined_step es i e l is))

-- one text, and then another
pub after_word : {T E : Type 0} (r : Result T E) (out mid old word text : List ℕ) → mid ≡ old ++ word → OnOk r (out ≡ mid ++ text) → OnOk r (out ≡ old ++ (word ++ text))
after_word r out mid old word text m h = subst (λ z. OnOk r (out ≡ z)) (ap (λ z. z ++ text) m ∙ append_assoc old word text) h
