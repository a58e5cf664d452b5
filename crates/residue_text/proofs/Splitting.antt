-- The tokens of a text, one by one: spaces before them are passed, and a byte that is no space begins one.
use mathlib.Core.Path.{◌≡◌, refl, sym, ap, ◌∙◌}
use mathlib.Core.Bool.{Bool, true, false, cond, not}
use mathlib.Core.List.{List, [], ◌∷◌}
use Prim.Native.Nat.{ℕ, suc, ◌+◌, ◌<◌}
use lib.ListN.{length, get_or, take, drop}
use lib.Seq.{drop-cons, drop-drop}
use Rattle.residue_text.specs.declared.scan.Kind.TheVariants.{NoSpace}
use Rattle.residue_text.specs.Tokens.{is_space, sought, before, goes_on, onto, tokens}

pub tokens_none : tokens [] ≡ []
unfolding tokens
tokens_none = refl

pass : (b : ℕ) (bs : List ℕ) → is_space b ≡ true → tokens (b ∷ bs) ≡ tokens bs
unfolding tokens
pass b bs e = rw e

-- the bytes before the first that is no space hold no token
pub tokens_skip : (text : List ℕ) → tokens (drop (before (sought NoSpace) text) text) ≡ tokens text
unfolding before
tokens_skip [] = refl
tokens_skip (b ∷ bs) = go (is_space b) refl (tokens_skip bs)
  where
    go : (t : Bool) → is_space b ≡ t → tokens (drop (before (sought NoSpace) bs) bs) ≡ tokens bs
        → tokens (drop (cond (not t) 0 (suc (before (sought NoSpace) bs))) (b ∷ bs)) ≡ tokens (b ∷ bs)
    go true e more = more ∙ sym (pass b bs e)
    go false e more = refl

-- a token of one byte, and one that goes on
ends : (b c : ℕ) (bs : List ℕ) → is_space b ≡ false → is_space c ≡ true → tokens (b ∷ c ∷ bs) ≡ (b ∷ []) ∷ tokens (c ∷ bs)
unfolding tokens goes_on
ends b c bs e s = rw (e, s)

goes : (b c : ℕ) (bs : List ℕ) → is_space b ≡ false → is_space c ≡ false → tokens (b ∷ c ∷ bs) ≡ onto b (tokens (c ∷ bs))
unfolding tokens goes_on
goes b c bs e s = rw (e, s)

joined : (b c : ℕ) (bs t : List ℕ) (ts : List (List ℕ)) → is_space b ≡ false → is_space c ≡ false → tokens (c ∷ bs) ≡ t ∷ ts
    → tokens (b ∷ c ∷ bs) ≡ (b ∷ t) ∷ ts
unfolding onto
joined b c bs t ts e s q = goes b c bs e s ∙ ap (onto b) q

-- a byte that is no space begins a token, which goes on up to the next space
token_first : (b : ℕ) (bs : List ℕ) → is_space b ≡ false → tokens (b ∷ bs) ≡ (b ∷ take (before is_space bs) bs) ∷ tokens (drop (before is_space bs) bs)
unfolding before tokens goes_on
token_first b [] e = rw e
token_first b (c ∷ bs) e = go (is_space c) refl (token_first c bs)
  where
    go : (t : Bool) → is_space c ≡ t
        → (is_space c ≡ false → tokens (c ∷ bs) ≡ (c ∷ take (before is_space bs) bs) ∷ tokens (drop (before is_space bs) bs))
        → tokens (b ∷ c ∷ bs)
        ≡ (b ∷ take (cond t 0 (suc (before is_space bs))) (c ∷ bs)) ∷ tokens (drop (cond t 0 (suc (before is_space bs))) (c ∷ bs))
    go true s more = ends b c bs e s
    go false s more = joined b c bs _ _ e s (more s)

begins : (l : List ℕ) {b : ℕ} {bs : List ℕ} → l ≡ b ∷ bs → is_space b ≡ false
    → tokens l ≡ take (before is_space l) l ∷ tokens (drop (before is_space l) l)
unfolding before
begins l {b} {bs} q e = rw (q, e) (token_first b bs e)

-- the same of the text that is left after some bytes
pub tokens-next : (text : List ℕ) (at : ℕ) → at < length text → is_space (get_or text at 0) ≡ false
    → tokens (drop at text) ≡ take (before is_space (drop at text)) (drop at text) ∷ tokens (drop (at + before is_space (drop at text)) text)
tokens-next text at h e = begins (drop at text) (drop-cons text at 0 h) e ∙ rw drop-drop
