-- Why a word of a text is wrong, or that nothing is wrong.
pub data Why : Type 0 where
  Nothing Missing Extra Number Kind RawValue Version NotFirst : Why
