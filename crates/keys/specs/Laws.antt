-- The two rules keep the laws of a rule.
use Rattle.std.specs.Prelude.{map}
use Rattle.std.proofs.Common.{rules}
use Rattle.crc.specs.Crc32.{crc_of}
use Rattle.keys.specs.Compared.{same_refl, same_sym, same_trans, same_made}
use Rattle.keys.specs.Integers.{integers}
use Rattle.keys.specs.Rule.{Lawful}
use Rattle.keys.specs.Text.{texts, lowered}

pub integers_lawful : Lawful integers
integers_lawful = record {
  short = search rules;
  reflexive = λ k v. same_refl (λ b. b) k;
  symmetric = λ j k v w e. same_sym (λ b. b) j k e;
  transitive = λ i j k u v w d e. same_trans (λ b. b) i j k d e;
  hashes = λ j k v w e. same_made (λ b. b) crc_of j k e;
  bits = search rules;
}

pub texts_lawful : Lawful texts
texts_lawful = record {
  short = search rules;
  reflexive = λ k v. same_refl (map lowered) k;
  symmetric = λ j k v w e. same_sym (map lowered) j k e;
  transitive = λ i j k u v w d e. same_trans (map lowered) i j k d e;
  hashes = λ j k v w e. same_made (map lowered) crc_of j k e;
  bits = search rules;
}
