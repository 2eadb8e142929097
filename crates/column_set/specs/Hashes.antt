-- The hash of a key for which no way is known to choose many keys that share it.
use Rattle.std.specs.Prelude.{ℕ}
use Rattle.std.specs.Hash.DefaultHasher as sip
use Rattle.lake_model.specs.Texts.{Text}

-- SipHash-1-3, both keys of which are 0
unfoldable pub sip_of : Text → ℕ
sip_of key = sip.finish (sip.write sip.initial key)
