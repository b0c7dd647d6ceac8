-- The argument block, text by text.
use Rattle.std.proofs.Common.{◌≡◌, ℕ, suc, ◌+◌, ◌<◌, ◌≤◌, List, [], ◌∷◌, ◌++◌, length, drop, get_or, refl, ap, sym, ◌∙◌, arith, append_assoc, append-nil, length-append, drop-cons}
use Rattle.run_definition.specs.declared.order.Order.{Order}
use Rattle.run_definition.specs.declared.order.Order.TheVariants.{Big, Little}
use Rattle.std.proofs.lemmas.List.{drop_all}
use Rattle.unix_definition.specs.Asked.{word_in_order, words_in_order, addresses, texts_with_zeros}
use Rattle.unix_definition.specs.Calls.{block_length}

texts-more : (args : List (List ℕ)) (text : List ℕ) → length (texts_with_zeros (args ++ text ∷ [])) ≡ length (texts_with_zeros args) + length text + 1
texts-more [] text = omega (arith, length-append text (0 ∷ []))
texts-more (t ∷ ts) text = omega (arith, length-append t (0 ∷ texts_with_zeros (ts ++ text ∷ [])), length-append t (0 ∷ texts_with_zeros ts), texts-more ts text)

pub block-more : (args : List (List ℕ)) (text : List ℕ) → block_length (args ++ text ∷ []) ≡ block_length args + length text + 5
block-more args text = omega (arith, texts-more args text, length-append args (text ∷ []))

drop-next : (texts : List (List ℕ)) (i : ℕ) (text : List ℕ) → i < length texts → text ≡ get_or texts i text → drop i texts ≡ text ∷ drop (i + 1) texts
drop-next texts i text h is = let e : suc i ≡ i + 1 = omega arith in drop-cons texts i text h ∙ (ap (λ x. x ∷ drop (suc i) texts) (sym is) ∙ ap (λ k. text ∷ drop k texts) e)

pub texts-next : (texts : List (List ℕ)) (i : ℕ) (text : List ℕ) → i < length texts → text ≡ get_or texts i text → texts_with_zeros (drop i texts) ≡ text ++ 0 ∷ texts_with_zeros (drop (i + 1) texts)
texts-next texts i text h is = ap texts_with_zeros (drop-next texts i text h is)

pub texts-longer : (texts : List (List ℕ)) (i : ℕ) (text : List ℕ) → i < length texts → text ≡ get_or texts i text → length (texts_with_zeros (drop i texts)) ≡ length text + 1 + length (texts_with_zeros (drop (i + 1) texts))
texts-longer texts i text h is = ap length (texts-next texts i text h is) ∙ omega (arith, length-append text (0 ∷ texts_with_zeros (drop (i + 1) texts)))

pub addresses-next : (texts : List (List ℕ)) (at i : ℕ) (text : List ℕ) → i < length texts → text ≡ get_or texts i text → addresses at (drop i texts) ≡ at ∷ addresses (at + length text + 1) (drop (i + 1) texts)
addresses-next texts at i text h is = ap (addresses at) (drop-next texts i text h is)

-- one text more was put, with its zero
pub texts-put : (block mid next all : List ℕ) (texts : List (List ℕ)) (i : ℕ) (text : List ℕ) → i < length texts → text ≡ get_or texts i text → block ++ texts_with_zeros (drop i texts) ≡ all → mid ≡ block ++ text → next ≡ mid ++ 0 ∷ [] → next ++ texts_with_zeros (drop (i + 1) texts) ≡ all
texts-put block mid next all texts i text h is so_far put closed =
    let rest : List ℕ = texts_with_zeros (drop (i + 1) texts) in
    ap (λ b. b ++ rest) (closed ∙ ap (λ m. m ++ 0 ∷ []) put)
    ∙ (append_assoc (block ++ text) (0 ∷ []) rest
    ∙ (append_assoc block text (0 ∷ rest) ∙ (ap (λ l. block ++ l) (sym (texts-next texts i text h is)) ∙ so_far)))

pub addresses-put : (order : Order) (block next all : List ℕ) (texts : List (List ℕ)) (at i : ℕ) (text : List ℕ) → i < length texts → text ≡ get_or texts i text → block ++ words_in_order order (addresses at (drop i texts) ++ 0 ∷ []) ≡ all → next ≡ block ++ word_in_order order at → next ++ words_in_order order (addresses (at + length text + 1) (drop (i + 1) texts) ++ 0 ∷ []) ≡ all
addresses-put order block next all texts at i text h is so_far put =
    let rest : List ℕ = words_in_order order (addresses (at + length text + 1) (drop (i + 1) texts) ++ 0 ∷ []) in
    ap (λ b. b ++ rest) put
    ∙ (append_assoc block (word_in_order order at) rest
    ∙ (ap (λ l. block ++ words_in_order order (l ++ 0 ∷ [])) (sym (addresses-next texts at i text h is)) ∙ so_far))

pub texts-end : (block all : List ℕ) (texts : List (List ℕ)) (i : ℕ) → length texts ≤ i → block ++ texts_with_zeros (drop i texts) ≡ all → block ≡ all
texts-end block all texts i h so_far = sym (append-nil block) ∙ (ap (λ l. block ++ texts_with_zeros l) (sym (drop_all i texts h)) ∙ so_far)

pub addresses-end : (order : Order) (block next all : List ℕ) (texts : List (List ℕ)) (at i : ℕ) → length texts ≤ i → block ++ words_in_order order (addresses at (drop i texts) ++ 0 ∷ []) ≡ all → next ≡ block ++ word_in_order order 0 → next ≡ all
addresses-end order block next all texts at i h so_far put =
    put ∙ (ap (λ l. block ++ l) (sym (append-nil (word_in_order order 0))) ∙ (ap (λ l. block ++ words_in_order order (addresses at l ++ 0 ∷ [])) (sym (drop_all i texts h)) ∙ so_far))

pub length-word : (order : Order) (w : ℕ) → length (word_in_order order w) ≡ 4
length-word Big w = refl
length-word Little w = refl
