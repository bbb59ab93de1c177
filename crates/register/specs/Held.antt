-- What a register of the code holds.
use Rattle.register.specs.declared.Register.{Register}
use Rattle.register.specs.Register.{Contents, holding}

-- its bits, its phase and the maker's bits
abbrev pub held : Register → Contents
held r = holding r.bits r.phase r.preset
