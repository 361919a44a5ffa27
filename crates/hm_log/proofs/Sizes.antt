-- A length in four bytes, and what it says of the bytes after it.
use Rattle.std.proofs.Common.{◌≡◌, ◌⊎◌, inl, inr, ℕ, ◌≤◌, ◌<◌, List, ◌++◌, length, take, get_or, sym, ◌∙◌, ap, arith, append_assoc, length-append}
use Rattle.std.proofs.lemmas.List.{take_at}
use Rattle.std.proofs.lemmas.Nat.{le_bytes_4}
use Rattle.std.specs.Int.{from_le_bytes, w32}
use Rattle.hm_log.specs.Format.{size_bytes, size_of, laid, NoFrame}

module _ (rest head tail : List ℕ) (n : ℕ) (parts : rest ≡ head ++ tail) (four : length head ≡ 4) (is : n ≡ from_le_bytes w32 head) where
  pub size_is : size_of rest ≡ n
  unfolding size_of
  size_is = ap (λ (l : List ℕ). from_le_bytes w32 (take 4 l)) parts ∙ ap (λ (l : List ℕ). from_le_bytes w32 l) (take_at head tail 4 four) ∙ sym is

  pub laid_is : ((i : ℕ) → get_or head i 0 < 256) → (frame next : List ℕ) → tail ≡ frame ++ next → length frame ≡ n → rest ≡ laid frame ++ next
  unfolding size_bytes
  laid_is bytes frame next split size =
      let spelled : size_bytes (length frame) ≡ head = ap size_bytes size ∙ le_bytes_4 head n four bytes is in
      parts ∙ ap (λ (l : List ℕ). head ++ l) split ∙ ap (λ (l : List ℕ). l ++ (frame ++ next)) (sym spelled) ∙ sym (append_assoc (size_bytes (length frame)) frame next)

  pub none : (n ≡ 0) ⊎ ((65536 < n) ⊎ (length tail ≤ n)) → NoFrame rest
  none (inl zero) = inr (inl (size_is ∙ zero))
  none (inr (inl many)) = inr (inr (inl (omega (arith, size_is))))
  none (inr (inr short)) = inr (inr (inr (omega (arith, size_is, ap length parts, length-append head tail))))
